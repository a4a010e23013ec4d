-- Conditions don't go by what is said of other condition keys than theirs.
use Rattle.std.proofs.Common.{◌≡◌, ℕ, ◌<◌, Bool, true, false, not, cond, List, [], ◌∷◌, length, get_or, refl, sym, ◌∙◌, ap, subst}
use Rattle.std.specs.Prelude.{IsTrue, MatchBool, filter}
use Rattle.std.specs.List.{flat_map, list_any}
use Rattle.std.specs.Str.{str_eq_ignore_ascii_case, str_to_ascii_lowercase}
use Rattle.std.proofs.lemmas.List.{get_or_default}
use Rattle.std.proofs.lemmas.Map.Views.{any-filter_same}
use Rattle.std.proofs.lemmas.Slice.Eq.{bytes_eq-Decides}
use Rattle.cond_ops.specs.declared.conditions.Condition.{Condition}
use Rattle.cond_ops.specs.declared.facts.Fact.{Fact}
use Rattle.cond_ops.specs.declared.facts.RequestFacts.{RequestFacts}
use Rattle.cond_ops.specs.Holds.{Holds, HoldsOf, HoldsPresent, HoldsMissing, has_name, is_present, request_values}
use Rattle.policy_doc.specs.declared.policies.Statement.{Statement}
use Rattle.policy_eval.specs.Asking.{SomeAskFor, facts_but, AskTheSameBut}
use Rattle.policy_eval.specs.Matching.{ConditionsHold}

false_unless : (b : Bool) → ¬ (b ≡ true) → b ≡ false
false_unless true h = absurd (h refl)
false_unless false h = refl

-- a filter keeps the same of the items that another test doesn't find, where no item passes both
module _ {X : Type 0} (p q : X → Bool) (apart : (x : X) → q x ≡ true → p x ≡ false) where
  abbrev others : List X → List X
  others xs = filter (λ x. not (q x)) xs

  filter_apart : (xs : List X) → filter p xs ≡ filter p (others xs)
  filter_apart [] = refl
  filter_apart (x ∷ xs) = by_test (q x) refl (filter_apart xs)
    where
      by_test : (b : Bool) → q x ≡ b → filter p xs ≡ filter p (others xs)
          → cond (p x) (x ∷ filter p xs) (filter p xs) ≡ filter p (cond (not b) (x ∷ others xs) (others xs))
      by_test true is rest = subst (λ c. cond c (x ∷ filter p xs) (filter p xs) ≡ filter p (others xs)) (sym (apart x is)) rest
      by_test false is rest = ap (λ ys. cond (p x) (x ∷ ys) ys) rest

  any_apart : (xs : List X) → list_any p (others xs) ≡ list_any p xs
  any_apart xs = any-filter_same p (λ x. not (q x)) true (λ x passes. kept (p x) (q x) (apart x) passes) xs
    where
      kept : (b c : Bool) → (c ≡ true → b ≡ false) → b ≡ true → not c ≡ true
      kept b true h passes = let bad : false ≡ true = sym (h refl) ∙ passes in cc
      kept b false h passes = refl

-- two names of one fact are the same without case
same_names : (fact : Fact) (key other : List ℕ) → has_name key fact ≡ true → has_name other fact ≡ true → str_eq_ignore_ascii_case other key ≡ true
same_names fact key other is also =
    let low : List ℕ → List ℕ = str_to_ascii_lowercase in
    (bytes_eq-Decides (low other) (low key)).1
    (sym ((bytes_eq-Decides (low fact.key) (low other)).0 also) ∙ (bytes_eq-Decides (low fact.key) (low key)).0 is)

-- a condition about another condition key
module _ (key : List ℕ) (c : Condition) (other : ¬ (IsTrue (str_eq_ignore_ascii_case c.key key))) where
  apart : (fact : Fact) → has_name key fact ≡ true → has_name c.key fact ≡ false
  apart fact is = false_unless (has_name c.key fact) (λ also. other (same_names fact key c.key is also))

  module _ (a b : List Fact) (same : facts_but key a ≡ facts_but key b) where
    present_same : is_present c.key a ≡ is_present c.key b
    present_same =
        sym (any_apart (has_name c.key) (has_name key) apart a)
        ∙ (ap (list_any (has_name c.key)) same ∙ any_apart (has_name c.key) (has_name key) apart b)

    values_same : request_values c.key a ≡ request_values c.key b
    values_same =
        ap (flat_map (λ (fact : Fact). fact.values))
        (filter_apart (has_name c.key) (has_name key) apart a
        ∙ (ap (filter (has_name c.key)) same ∙ sym (filter_apart (has_name c.key) (has_name key) apart b)))

    holds_of_too : HoldsOf c a → HoldsOf c b
    holds_of_too h =
        subst (λ present. MatchBool present (HoldsPresent c (request_values c.key b)) (HoldsMissing c)) present_same
        (subst (λ values. MatchBool (is_present c.key a) (HoldsPresent c values) (HoldsMissing c)) values_same h)

holds_too : (key : List ℕ) (c : Condition) → ¬ (IsTrue (str_eq_ignore_ascii_case c.key key)) → (a b : RequestFacts) → AskTheSameBut key a b → Holds c a → Holds c b
unfolding Holds
holds_too key c other a b same = holds_of_too key c other a.facts b.facts same.1

-- statements none of which asks for a condition key
pub conditions_too : (key : List ℕ) (ss : List Statement) → ¬ (SomeAskFor key ss)
    → (a b : RequestFacts) → AskTheSameBut key a b → (s : Statement) (k : ℕ) → k < length ss → get_or ss k s ≡ s → ConditionsHold s a → ConditionsHold s b
unfolding ConditionsHold
conditions_too key ss none a b same s k lt at hold j c within =
    holds_too key (get_or s.conditions j c)
    (λ is. none (k, s, lt, at, (j, get_or s.conditions j c, within, get_or_default s.conditions j _ _ within, is)))
    a b same (hold j c within)

pub but_turned : (key : List ℕ) (a b : RequestFacts) → AskTheSameBut key a b → AskTheSameBut key b a
but_turned key a b ((caller, action, resource), facts) = ((sym caller, sym action, sym resource), sym facts)
