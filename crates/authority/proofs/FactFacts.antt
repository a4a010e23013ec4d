-- Condition keys that are added one after another.
use Rattle.std.proofs.Common.{◌≡◌, ℕ, ◌+◌, ◌<◌, List, [], ◌∷◌, ◌++◌, length, take, get_or, map, codes, decimal, Bool, true, sym, ap, ◌∙◌, append_assoc}
use Rattle.std.proofs.lemmas.List.{take_more, map-append}
use Rattle.enc_context.specs.declared.pairs.Pair.{Pair}
use Rattle.kms_names.specs.declared.principals.Principal.TheVariants.{User}
use Rattle.kms_names.specs.Principal.{principal_text, account_of}
use Rattle.kms_names.specs.declared.principals.Principal.{Principal}
use Rattle.cond_ops.specs.declared.facts.Fact.{Fact}
use Rattle.resource_tags.specs.Tags.{Tags}
use Rattle.resource_tags.specs.declared.tags.Tag.{Tag}
use Rattle.authority.specs.Times.{moment_text}
use Rattle.authority.specs.Facts.{single, behind_slash, user_facts, caller_facts, time_facts, pair_fact, resource_tag, request_tag}

-- two runs of them
pub adds : (old mid new a b : List Fact) → mid ≡ old ++ a → new ≡ mid ++ b → new ≡ old ++ (a ++ b)
adds old mid new a b e f = f ∙ ap (λ (l : List Fact). l ++ b) e ∙ append_assoc old a b

-- three, and four
pub three : (old m n new a b c : List Fact) → m ≡ old ++ a → n ≡ m ++ b → new ≡ n ++ c → new ≡ old ++ (a ++ (b ++ c))
three old m n new a b c e f g = adds old m new a (b ++ c) e (adds m n new b c f g)

pub four : (old m n o new a b c d : List Fact) → m ≡ old ++ a → n ≡ m ++ b → o ≡ n ++ c → new ≡ o ++ d → new ≡ old ++ (a ++ (b ++ (c ++ d)))
four old m n o new a b c d e f g h = adds old m new a (b ++ (c ++ d)) e (three m n o new b c d f g h)

pub caller_is : (old mid new : List Fact) (caller : Principal) (arn account again : List ℕ) → arn ≡ principal_text caller → account ≡ account_of caller → again ≡ account_of caller
    → mid ≡ old ++ (single (codes "aws:PrincipalArn") arn ∷ single (codes "aws:PrincipalAccount") account ∷ single (codes "kms:CallerAccount") again ∷ [])
    → new ≡ mid ++ user_facts caller → new ≡ old ++ caller_facts caller
caller_is old mid new caller arn account again is_arn is_account is_again e f =
    adds old mid new (single (codes "aws:PrincipalArn") (principal_text caller) ∷ single (codes "aws:PrincipalAccount") (account_of caller) ∷ single (codes "kms:CallerAccount") (account_of caller) ∷ []) (user_facts caller)
    (e ∙ (λ i. old ++ (single (codes "aws:PrincipalArn") (is_arn i) ∷ single (codes "aws:PrincipalAccount") (is_account i) ∷ single (codes "kms:CallerAccount") (is_again i) ∷ []))) f

pub times_are : (old new : List Fact) (moment : ℕ) (current seconds : List ℕ) → current ≡ moment_text moment → seconds ≡ decimal moment
    → new ≡ old ++ (single (codes "aws:CurrentTime") current ∷ single (codes "aws:EpochTime") seconds ∷ []) → new ≡ old ++ time_facts moment
times_are old new moment current seconds is_current is_seconds e =
    e ∙ (λ i. old ++ (single (codes "aws:CurrentTime") (is_current i) ∷ single (codes "aws:EpochTime") (is_seconds i) ∷ []))

pub pair_is : (old new : List Fact) (pair : Pair) (key value : List ℕ) → key ≡ codes "kms:EncryptionContext:" ++ pair.key → value ≡ pair.value
    → new ≡ old ++ single key value ∷ [] → new ≡ old ++ pair_fact pair ∷ []
pair_is old new pair key value is_key is_value e = e ∙ (λ i. old ++ single (is_key i) (is_value i) ∷ [])

-- one more of a list
pub one_pushed : {A : Type 0} (f : A → Fact) (old mid new : List Fact) (items : List A) (i : ℕ) (item : A) → i < length items → item ≡ get_or items i item
    → mid ≡ old ++ map f (take i items) → new ≡ mid ++ f item ∷ [] → new ≡ old ++ map f (take (i + 1) items)
one_pushed f old mid new items i item within is e g =
    let more : map f (take (i + 1) items) ≡ map f (take i items) ++ f (get_or items i item) ∷ [] =
    ap (map f) (take_more items i item within) ∙ map-append f (take i items) (get_or items i item ∷ []) in
    adds old mid new (map f (take i items)) (f item ∷ []) e g
    ∙ ap (λ (l : List Fact). old ++ l) (ap (λ p. map f (take i items) ++ f p ∷ []) is ∙ sym more)

pub user_is : (old new : List Fact) (caller : Principal) (account name last : List ℕ) → caller ≡ User account name → last ≡ behind_slash name
    → new ≡ old ++ single (codes "aws:username") last ∷ [] → new ≡ old ++ user_facts caller
user_is old new caller account name last is is_last e =
    e ∙ ap (λ (text : List ℕ). old ++ single (codes "aws:username") text ∷ []) is_last ∙ ap (λ (p : Principal). old ++ user_facts p) (sym is)

pub resource_tag_is : (old new : List Fact) (name text key value : List ℕ) → key ≡ codes "aws:ResourceTag/" ++ name → value ≡ text
    → new ≡ old ++ single key value ∷ [] → new ≡ old ++ resource_tag (name, text) ∷ []
resource_tag_is old new name text key value is_key is_value e = e ∙ (λ i. old ++ single (is_key i) (is_value i) ∷ [])

pub request_tag_is : (old new : List Fact) (tag : Tag) (key value : List ℕ) → key ≡ codes "aws:RequestTag/" ++ tag.key → value ≡ tag.value
    → new ≡ old ++ single key value ∷ [] → new ≡ old ++ request_tag tag ∷ []
request_tag_is old new tag key value is_key is_value e = e ∙ (λ i. old ++ single (is_key i) (is_value i) ∷ [])

-- one more of the pairs that are left
pub next_pushed : (old mid new : List Fact) (all left rest : Tags) (tag : List ℕ × List ℕ) → left ≡ tag ∷ rest → mid ++ map resource_tag left ≡ old ++ map resource_tag all
    → new ≡ mid ++ resource_tag tag ∷ [] → new ++ map resource_tag rest ≡ old ++ map resource_tag all
next_pushed old mid new all left rest tag is e f =
    ap (λ (l : List Fact). l ++ map resource_tag rest) f ∙ (append_assoc mid (resource_tag tag ∷ []) (map resource_tag rest) ∙ (ap (λ l. mid ++ map resource_tag l) (sym is) ∙ e))
