-- A question has one answer, whether what the request says to conditions was put together, with the names of the key's aliases or
-- without, or no policy asks for it.
use Rattle.std.proofs.Common.{◌≡◌, ℕ, Bool, true, false, not, cond, ◌&&◌, ◌||◌, List, [], ◌∷◌, ◌++◌, codes, Option, Some, None, refl, sym, ap, ap₂, ◌∙◌, if◌then◌else◌}
use Rattle.std.specs.Prelude.{All}
use Rattle.std.specs.Str.{str_to_ascii_lowercase}
use Rattle.std.proofs.lemmas.List.Elements.{All-head, All-tail, filter-append}
use Rattle.std.proofs.lemmas.Slice.Eq.{bytes_eq-Decides}
use Rattle.kms_names.specs.declared.principals.Principal.{Principal}
use Rattle.cond_ops.specs.declared.facts.Fact.{Fact}
use Rattle.cond_ops.specs.declared.facts.RequestFacts.{RequestFacts}
use Rattle.cond_ops.specs.Holds.{has_name}
use Rattle.policy_doc.specs.declared.policies.Policy.{Policy}
use Rattle.policy_eval.specs.declared.verdicts.Verdict.{Verdict}
use Rattle.policy_eval.specs.Asking.{facts_but, AskTheSameBut, CeilingGoesWithout}
use Rattle.policy_eval.specs.Verdict.{AskTheSame}
use Rattle.policy_eval.specs.VerdictOf.{verdict_of}
use Rattle.policy_eval.specs.CeilingOf.{ceiling_of, CeilingGoesByQuestion}
use Rattle.authority.specs.Setting.{Setting, Particulars, Asked, is_root}
use Rattle.authority.specs.Facts.{several, several_facts, text_facts, key_facts, setting_facts, sealing_facts, granting_facts, changing_facts, tag_facts, request_of}
use Rattle.authority.specs.Allowed.{is_deny, is_direct, some_deny, some_allow, identity_allows, own_standing, key_standing, standing, bounded, bounded_standing, standing_of}
use Rattle.authority.specs.Questions.{GoByQuestions, KeyGoesByQuestion, resource_aliases, GoWithoutAliases, KeyGoesWithoutAliases, asked_as_gathered, SaysWhatIsAsked}

-- ---- policies of one verdict of two requests

abbrev KeySays : RequestFacts → RequestFacts → Option Policy → Type 0
KeySays a b None = Unit {0}
KeySays a b (Some policy) = verdict_of policy a ≡ verdict_of policy b

module _ (a b : RequestFacts) where
  abbrev Says : Policy → Type 0
  Says p = verdict_of p a ≡ verdict_of p b

  denies_same : (policies : List Policy) → All Says policies → some_deny policies a ≡ some_deny policies b
  denies_same [] say = refl
  denies_same (p ∷ policies) say =
      ap₂ (λ (x y : Bool). x || y) (ap is_deny (All-head Says p policies say)) (denies_same policies (All-tail Says p policies say))

  allows_same : (policies : List Policy) → All Says policies → some_allow policies a ≡ some_allow policies b
  allows_same [] say = refl
  allows_same (p ∷ policies) say =
      ap₂ (λ (x y : Bool). x || y) (ap is_direct (All-head Says p policies say)) (allows_same policies (All-tail Says p policies say))

  identity_same : (caller : Principal) (policies : List Policy) → All Says policies → identity_allows caller policies a ≡ identity_allows caller policies b
  identity_same caller policies say =
      ap₂ (λ (x y : Bool). not x && (if is_root caller then true else y)) (denies_same policies say) (allows_same policies say)

  question_same : (caller : Principal) (policies : List Policy) (policy : Option Policy) → All Says policies → KeySays a b policy
      → standing caller policies policy a ≡ standing caller policies policy b
  question_same caller policies None say key = ap own_standing (identity_same caller policies say)
  question_same caller policies (Some policy) say key =
      ap (λ (v : Verdict). key_standing v (some_deny policies a) (identity_allows caller policies a)) key
      ∙ ap₂ (key_standing (verdict_of policy b)) (denies_same policies say) (identity_same caller policies say)

  bounded_same : (setting : Setting) (policy : Option Policy) → ceiling_of setting.ceiling a ≡ ceiling_of setting.ceiling b → All Says setting.policies → KeySays a b policy
      → bounded_standing setting policy a ≡ bounded_standing setting policy b
  bounded_same setting policy bound say key = ap₂ bounded bound (question_same setting.caller setting.policies policy say key)

-- ---- requests that differ in the names of the key's aliases

module _ (key : List ℕ) where
  own_name : (values : List (List ℕ)) → has_name key (several key values) ≡ true
  own_name values = (bytes_eq-Decides (str_to_ascii_lowercase key) (str_to_ascii_lowercase key)).1 refl

  none_left : (names : List (List ℕ)) → facts_but key (several_facts key names) ≡ []
  none_left [] = refl
  none_left (name ∷ names) = ap (λ (b : Bool). cond (not b) (several key (name ∷ names) ∷ []) []) (own_name (name ∷ names))

  module _ (s k r t : List Fact) where
    abbrev is_other : Fact → Bool
    is_other fact = not (has_name key fact)

    apart : (a : List Fact) → facts_but key (s ++ ((k ++ (a ++ r)) ++ t)) ≡ facts_but key s ++ ((facts_but key k ++ (facts_but key a ++ facts_but key r)) ++ facts_but key t)
    apart a =
        filter-append is_other s ((k ++ (a ++ r)) ++ t)
        ∙ ap (λ (l : List Fact). facts_but key s ++ l)
        (filter-append is_other (k ++ (a ++ r)) t
        ∙ ap (λ (l : List Fact). l ++ facts_but key t)
        (filter-append is_other k (a ++ r) ∙ ap (λ (l : List Fact). facts_but key k ++ l) (filter-append is_other a r)))

    without : (names : List (List ℕ)) → facts_but key (s ++ ((k ++ ([] ++ r)) ++ t)) ≡ facts_but key (s ++ ((k ++ (several_facts key names ++ r)) ++ t))
    without names =
        apart []
        ∙ (ap (λ (l : List Fact). facts_but key s ++ ((facts_but key k ++ (l ++ facts_but key r)) ++ facts_but key t)) (sym (none_left names))
        ∙ sym (apart (several_facts key names)))

differ_in_aliases : (setting : Setting) (asked : Asked) → AskTheSameBut resource_aliases (request_of setting (asked_as_gathered false asked)) (request_of setting asked)
unfolding request_of
differ_in_aliases setting asked =
    let said : Particulars = asked.particulars in (
      (refl, refl, refl),
      without resource_aliases (setting_facts setting) (key_facts said.kind) (text_facts (codes "kms:RequestAlias") said.request_alias)
          (sealing_facts asked.action said ++ (granting_facts asked.action said ++ (changing_facts said ++ tag_facts said))) said.aliases,
    )

with_all : (setting : Setting) (asked : Asked) → request_of setting (asked_as_gathered true asked) ≡ request_of setting asked
unfolding request_of
with_all setting asked = refl

-- ---- the answer

key_by_question : (a b : RequestFacts) → AskTheSame a b → (policy : Option Policy) → KeyGoesByQuestion policy → KeySays a b policy
key_by_question a b same None goes = goes
key_by_question a b same (Some policy) goes = goes a b same

key_without : (a b : RequestFacts) → AskTheSameBut resource_aliases a b → (policy : Option Policy) → KeyGoesWithoutAliases policy → KeySays a b policy
key_without a b same None goes = goes
key_without a b same (Some policy) goes = goes a b same

module _ (setting : Setting) (asked : Asked) (policy : Option Policy) (request : RequestFacts) where
  pub record GoUnasked (wanted with_aliases : Bool) : Type 0 where
    pub key : wanted ≡ false → KeyGoesByQuestion policy
    pub own : wanted ≡ false → GoByQuestions setting.policies
    pub bound : wanted ≡ false → CeilingGoesByQuestion setting.ceiling
    pub aliases_key : with_aliases ≡ false → KeyGoesWithoutAliases policy
    pub aliases_own : with_aliases ≡ false → GoWithoutAliases setting.policies
    pub aliases_bound : with_aliases ≡ false → CeilingGoesWithout resource_aliases setting.ceiling

  pub one_answer : (wanted with_aliases : Bool) → GoUnasked wanted with_aliases → SaysWhatIsAsked setting asked wanted with_aliases request
      → bounded_standing setting policy request ≡ standing_of setting policy asked
  unfolding standing_of
  one_answer true true go told = ap (bounded_standing setting policy) (told.facts refl ∙ with_all setting asked)
  one_answer true false go told =
      let whole : RequestFacts = request_of setting asked in
      let part : RequestFacts = request_of setting (asked_as_gathered false asked) in
      let same : AskTheSameBut resource_aliases part whole = differ_in_aliases setting asked in
      ap (bounded_standing setting policy) (told.facts refl)
      ∙ bounded_same part whole setting policy (go.aliases_bound refl part whole same)
      (λ k d within. go.aliases_own refl k d within part whole same) (key_without part whole same policy (go.aliases_key refl))
  one_answer false with_aliases go told =
      let whole : RequestFacts = request_of setting asked in
      let same : AskTheSame request whole = (told.caller, told.action, told.resource) in
      bounded_same request whole setting policy (go.bound refl request whole same)
      (λ k d within. go.own refl k d within request whole same) (key_by_question request whole same policy (go.key refl))
