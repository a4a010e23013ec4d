-- What the whole lines of a file tell.
use Rattle.std.proofs.Common.{◌≡◌, ◌≢◌, inl, inr, ℕ, ◌<◌, ◌≤◌, true, false, Some, All, List, [], ◌∷◌, ◌++◌, length, drop, replicate, refl, sym, ◌∙◌, ap, ap₂, subst, arith, append_assoc, length-append, Bool, ◌+◌, ne_eqb}
use Rattle.std.specs.Char.{is_ascii_digit}
use Rattle.std.specs.List.{AllPass}
use Rattle.std.specs.Prelude.{Result, Ok, Err, IfErr, ◌==◌, if◌then◌else◌}
use Rattle.std.proofs.lemmas.List.{append-nil}
use Rattle.std.proofs.lemmas.List.Elements.{All-nil, All-cons, All-head, All-tail, All-append}
use Rattle.std.proofs.lemmas.Bool.{cases_eq}
use Rattle.std.proofs.lemmas.Bool.Decides.{nat_tests}
use Rattle.account_steps.specs.declared.facts.RealmFacts.{RealmFacts}
use Rattle.account_core.specs.Account.{Account}
use Rattle.account_core.specs.Fitting.{nothing}
use Rattle.kept_log.specs.Log.{IsPlain, line, lines, bodies_from, recovered}
use Rattle.kept_journal.specs.declared.told.Told.{Told}
use Rattle.kept_journal.specs.declared.reading.Read.{Read}
use Rattle.kept_journal.specs.declared.faults.KeptFault.{KeptFault}
use Rattle.kept_journal.specs.declared.faults.KeptFault.TheVariants.{At, OldBoot}
use Rattle.kept_journal.specs.Lines.{Head, text_of, key_of, seal_of, sealed, head_text, first_seal, records_behind, records_of}
use Rattle.kept_journal.specs.Starts.{latest}
use Rattle.kept_journal.specs.Reading.{IsReadBack, IsSoFar, IsReadOf, IsReading, IsFault, no_head, old_boot, head_of, first_line_of, text_at}
use Rattle.kept_journal.proofs.Printable.{told_high, head_high, number_high, sealed_plain}

abbrev Plain : ℕ → Type 0
Plain byte = (byte ≢ 10) × (byte ≢ 9)

-- ---- the bodies that a file stands for are plain

opens : (gate : ℕ) (rest : List ℕ) → gate ≡ 123 → recovered (gate ∷ rest) ≡ bodies_from (Some []) rest
opens gate rest is = grind (arith, nat_tests)

closed : (gate : ℕ) (rest : List ℕ) → gate ≢ 123 → recovered (gate ∷ rest) ≡ []
closed gate rest shut = grind (arith, nat_tests)

feeds : (body : List ℕ) (byte : ℕ) (rest : List ℕ) → byte ≡ 10 → bodies_from (Some body) (byte ∷ rest) ≡ body ∷ recovered rest
feeds body byte rest is = grind (arith, nat_tests)

fills : (body : List ℕ) (byte : ℕ) (rest : List ℕ) → byte ≡ 9 → bodies_from (Some body) (byte ∷ rest) ≡ []
fills body byte rest is = grind (arith, nat_tests)

goes_in : (body : List ℕ) (byte : ℕ) (rest : List ℕ) → byte ≢ 10 → byte ≢ 9 → bodies_from (Some body) (byte ∷ rest) ≡ bodies_from (Some (body ++ byte ∷ [])) rest
goes_in body byte rest no_feed no_fill = grind (arith, nat_tests)

push_plain : (body : List ℕ) (byte : ℕ) → IsPlain body → Plain byte → IsPlain (body ++ byte ∷ [])
push_plain body byte plain is = All-append Plain body (byte ∷ []) plain (All-cons Plain byte [] is (All-nil Plain))

mutual
  plain_outside : (file : List ℕ) → All IsPlain (recovered file)
  plain_outside [] = All-nil IsPlain
  plain_outside (gate ∷ rest) = elim (cases_eq gate 123) [
    | inl is ↦ subst (All IsPlain) (sym (opens gate rest is)) (plain_inside [] rest (All-nil Plain))
    | inr shut ↦ subst (All IsPlain) (sym (closed gate rest shut)) (All-nil IsPlain)
  ]

  plain_inside : (body file : List ℕ) → IsPlain body → All IsPlain (bodies_from (Some body) file)
  plain_inside body [] plain = All-nil IsPlain
  plain_inside body (byte ∷ rest) plain = elim (cases_eq byte 10) [
    | inl feed ↦ subst (All IsPlain) (sym (feeds body byte rest feed)) (All-cons IsPlain body (recovered rest) plain (plain_outside rest))
    | inr no_feed ↦ elim (cases_eq byte 9) [
      | inl fill ↦ subst (All IsPlain) (sym (fills body byte rest fill)) (All-nil IsPlain)
      | inr no_fill ↦ subst (All IsPlain) (sym (goes_in body byte rest no_feed no_fill)) (plain_inside (body ++ byte ∷ []) rest (push_plain body byte plain (no_feed, no_fill)))
    ]
  ]

-- ---- plain bodies of the same lines are the same

body_same : (a b s t : List ℕ) → IsPlain a → IsPlain b → a ++ 10 ∷ s ≡ b ++ 10 ∷ t → (a ≡ b) × (s ≡ t)
body_same [] [] s t p q e = (refl, ap (λ (l : List ℕ). drop 1 l) e)
body_same [] (y ∷ b) s t p q e = let first : 10 ≡ y = cc in absurd ((All-head Plain y b q).0 (sym first))
body_same (x ∷ a) [] s t p q e = let first : x ≡ 10 = cc in absurd ((All-head Plain x a p).0 first)
body_same (x ∷ a) (y ∷ b) s t p q e =
    let parts : (x ≡ y) × (a ++ 10 ∷ s ≡ b ++ 10 ∷ t) = (cc, cc) in
    let same = body_same a b s t (All-tail Plain x a p) (All-tail Plain y b q) parts.1 in
    (ap₂ (λ (z : ℕ) (l : List ℕ). z ∷ l) parts.0 same.0, same.1)

lines_same : (a b : List (List ℕ)) → All IsPlain a → All IsPlain b → lines a ≡ lines b → a ≡ b
lines_same [] [] p q e = refl
lines_same [] (y ∷ b) p q e = absurd (omega (arith, ap length e, length-append (line y) (lines b)))
lines_same (x ∷ a) [] p q e = absurd (omega (arith, ap length e, length-append (line x) (lines a)))
lines_same (x ∷ a) (y ∷ b) p q e =
    let behind : x ++ 10 ∷ lines a ≡ y ++ 10 ∷ lines b = sym (append_assoc x (10 ∷ []) (lines a)) ∙ ap (λ (l : List ℕ). drop 1 l) e ∙ append_assoc y (10 ∷ []) (lines b) in
    let same = body_same x y (lines a) (lines b) (All-head IsPlain x a p) (All-head IsPlain y b q) behind in
    ap₂ (λ (z : List ℕ) (l : List (List ℕ)). z ∷ l) same.0 (lines_same a b (All-tail IsPlain x a p) (All-tail IsPlain y b q) same.1)

no_bodies : (bodies : List (List ℕ)) → length (lines bodies) ≡ 0 → bodies ≡ []
no_bodies [] e = refl
no_bodies (b ∷ bodies) e = absurd (omega (arith, e, length-append (line b) (lines bodies)))

-- ---- how many lines there are

abbrev pub feed_count : List ℕ → ℕ
feed_count [] = 0
feed_count (byte ∷ text) = (if byte == 10 then 1 else 0) + feed_count text

feed_in : (body rest : List ℕ) → IsPlain body → feed_count (body ++ 10 ∷ rest) ≡ 1 + feed_count rest
feed_in [] rest plain = refl
feed_in (byte ∷ body) rest plain =
    let sum : 0 + feed_count (body ++ 10 ∷ rest) ≡ 1 + feed_count rest = omega (arith, feed_in body rest (All-tail Plain byte body plain)) in
    ap (λ (b : Bool). (if b then 1 else 0) + feed_count (body ++ 10 ∷ rest)) (ne_eqb byte 10 (All-head Plain byte body plain).0) ∙ sum

feeds_are : (bodies : List (List ℕ)) → All IsPlain bodies → feed_count (lines bodies) ≡ length bodies
feeds_are [] plain = refl
feeds_are (body ∷ bodies) plain =
    let first : feed_count (lines (body ∷ bodies)) ≡ 0 + feed_count (body ++ 10 ∷ lines bodies) = ap (λ (l : List ℕ). feed_count (123 ∷ l)) (append_assoc body (10 ∷ []) (lines bodies)) in
    let feed = feed_in body (lines bodies) (All-head IsPlain body bodies plain) in
    let rest = feeds_are bodies (All-tail IsPlain body bodies plain) in
    let sum : 0 + feed_count (body ++ 10 ∷ lines bodies) ≡ length (body ∷ bodies) = omega (arith, feed, rest) in
    first ∙ sum

pub lines_counted : (bytes : List ℕ) → feed_count (lines (recovered bytes)) ≡ length (recovered bytes)
lines_counted bytes = feeds_are (recovered bytes) (plain_outside bytes)

-- ---- and so are those of a journal

behind_plain : (key last : List ℕ) (told : List Told) → All IsPlain (records_behind key last told)
behind_plain key last [] = All-nil IsPlain
behind_plain key last (one ∷ told) =
    let seal = seal_of key last (text_of one) in
    All-cons IsPlain (sealed (text_of one) seal) (records_behind key seal told) (sealed_plain (text_of one) seal (told_high one)) (behind_plain key seal told)

records_plain : (head : Head) (told : List Told) → AllPass is_ascii_digit head.account → All IsPlain (records_of head told)
records_plain head told digits =
    let first = head_text head.account head.region in
    All-cons IsPlain (sealed first (first_seal head)) (records_behind (key_of head.root) (first_seal head) told)
    (sealed_plain first (first_seal head) (head_high head.account head.region (number_high head.account digits))) (behind_plain (key_of head.root) (first_seal head) told)

-- ---- a reading of a file

-- the seal and the line of the head, as they are computed
pub seal_is_first : (facts : RealmFacts) (key text seal : List ℕ) → key ≡ key_of facts.root → text ≡ head_text facts.account facts.region → seal ≡ seal_of key (replicate 32 0) text → seal ≡ first_seal (head_of facts)
seal_is_first facts key text seal key_is text_is is =
    is ∙ ap (λ (k : List ℕ). seal_of k (replicate 32 0) text) key_is ∙ ap (λ (t : List ℕ). seal_of (key_of facts.root) (replicate 32 0) t) text_is

pub line_is_first : (facts : RealmFacts) (text seal first : List ℕ) → text ≡ head_text facts.account facts.region → seal ≡ first_seal (head_of facts) → first ≡ line (sealed text seal) → first ≡ first_line_of facts
line_is_first facts text seal first text_is seal_is is =
    is ∙ ap (λ (t : List ℕ). line (sealed t seal)) text_is ∙ ap (λ (s : List ℕ). line (sealed (head_text facts.account facts.region) s)) seal_is

first_at : (facts : RealmFacts) (rest : List ℕ) → first_line_of facts ++ rest ≡ text_at facts [] ++ rest
first_at facts rest = ap (λ (l : List ℕ). l ++ rest) (sym (append-nil (first_line_of facts)))

none_at : (facts : RealmFacts) (read : Read) → read.account ≡ record { facts = facts; entries = [] } → read.seal ≡ first_seal (head_of facts) → read.last_start ≡ 0 → IsSoFar facts [] read
none_at facts read account seal last = record {
  are = record { rises = tt; sound = nothing; back = All-nil IsReadBack };
  account = account;
  seal = seal;
  last_start = last;
}

-- what is read before the first line, by the facts of the account that was made
pub none_told : (facts : RealmFacts) (read : Read) → read.account ≡ record { facts = facts; entries = [] } → read.seal ≡ first_seal (head_of facts) → read.last_start ≡ 0 → IsSoFar read.account.facts [] read
none_told facts read account seal last = subst (λ (f : RealmFacts). IsSoFar f [] read) (sym (ap (λ (a : Account). a.facts) account)) (none_at facts read account seal last)

pub new_reading : (facts : RealmFacts) (bytes : List ℕ) (read : Read) → read.account ≡ record { facts = facts; entries = [] } → read.seal ≡ first_seal (head_of facts) → read.last_start ≡ 0 → read.is_new ≡ true
    → length (lines (recovered bytes)) ≡ 0 → 0 < facts.boot → IsReading facts bytes [] read
new_reading facts bytes read account seal last new empty low = record {
  so_far = none_at facts read account seal last;
  old = λ (e : read.is_new ≡ false). let both : true ≡ false = sym new ∙ e in cc;
  new = λ _. (no_bodies (recovered bytes) empty, refl);
  lower = low;
}

pub old_reading : (facts g : RealmFacts) (bytes rest : List ℕ) (told : List Told) (read : Read) → g ≡ facts → AllPass is_ascii_digit facts.account → read.is_new ≡ false → lines (recovered bytes) ≡ first_line_of facts ++ rest
    → IsReadOf g (text_at g [] ++ rest) told read → read.last_start < facts.boot → IsReading facts bytes told read
old_reading facts g bytes rest told read is digits old text r low =
    let head = head_of facts in
    let read_of : IsReadOf facts (text_at facts [] ++ rest) told read = subst (λ (f : RealmFacts). IsReadOf f (text_at f [] ++ rest) told read) is r in
    let same : lines (recovered bytes) ≡ lines (records_of head told) = text ∙ first_at facts rest ∙ read_of.is in
    record {
      so_far = read_of.so_far;
      old = λ _. lines_same (recovered bytes) (records_of head told) (plain_outside bytes) (records_plain head told digits) same;
      new = λ (e : read.is_new ≡ true). let both : false ≡ true = sym old ∙ e in cc;
      lower = omega (arith, low, read_of.so_far.last_start);
    }

-- ---- a fault of a file

pub head_is_missing : (facts : RealmFacts) (first all text : List ℕ) → all ≡ text → first ≡ first_line_of facts → 0 < length all → ((rest : List ℕ) → all ≢ first ++ rest) → IsFault facts text (At 1)
head_is_missing facts first all text is first_is some none =
    no_head (omega (arith, some, ap length is)) (λ (rest : List ℕ) (e : text ≡ first_line_of facts ++ rest). none rest (is ∙ e ∙ ap (λ (l : List ℕ). l ++ rest) (sym first_is)))

pub fault_is : (facts g : RealmFacts) (text rest : List ℕ) (fault : KeptFault) (r : Result Read KeptFault) → g ≡ facts → text ≡ first_line_of facts ++ rest → IsFault g (text_at g [] ++ rest) fault → IfErr r (λ e. e ≡ fault)
    → IfErr r (IsFault facts text)
fault_is facts g text rest fault (Ok read) same is at m = m
fault_is facts g text rest fault (Err e) same is at m =
    let at_facts : IsFault facts (text_at facts [] ++ rest) fault = subst (λ (f : RealmFacts). IsFault f (text_at f [] ++ rest) fault) same at in
    subst (IsFault facts text) (sym m) (subst (λ (t : List ℕ). IsFault facts t fault) (sym (is ∙ first_at facts rest)) at_facts)

pub boot_is_old : (facts g : RealmFacts) (text rest : List ℕ) (told : List Told) (read : Read) → g ≡ facts → text ≡ first_line_of facts ++ rest → IsReadOf g (text_at g [] ++ rest) told read → facts.boot ≤ read.last_start
    → IsFault facts text OldBoot
boot_is_old facts g text rest told read same is r low =
    let read_of : IsReadOf facts (text_at facts [] ++ rest) told read = subst (λ (f : RealmFacts). IsReadOf f (text_at f [] ++ rest) told read) same r in
    old_boot read_of.so_far.are (is ∙ first_at facts rest ∙ read_of.is) (omega (arith, low, read_of.so_far.last_start))
