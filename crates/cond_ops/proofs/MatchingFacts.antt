-- From the facts of a key to the values of the request, and from what some of these do to whether a condition holds.
use Rattle.std.proofs.Common.{◌≡◌, ◌⊎◌, ℕ, zero, suc, ◌+◌, ◌<◌, ◌≤◌, ◌||◌, Bool, true, false, not, cond, Some, None, length, take, get_or, ap, ◌∙◌, List, [], ◌∷◌, ◌++◌, refl, sym, subst, arith, inl, inr}
use Rattle.std.specs.Prelude.{◌↔◌, IsTrue, All, Any, MatchBool, filter}
use Rattle.std.specs.List.{flat_map, list_any}
use Rattle.std.proofs.lemmas.List.Elements.{All-head, All-tail, All-append, All-more}
use Rattle.std.proofs.lemmas.List.{take_all}
use Rattle.std.proofs.lemmas.List.Folds.{list_any_at, list_any_more}
use mathlib.Core.Bool.{beq}
use Rattle.cond_ops.specs.declared.conditions.Condition.{Condition}
use Rattle.cond_ops.specs.declared.facts.Fact.{Fact}
use Rattle.cond_ops.specs.declared.qualified.Qualifier.TheVariants.{Plain, AllValues, AnyValue}
use Rattle.cond_ops.specs.Holds.{ValueMatches, has_name, request_values, HoldsOfValues}
use Rattle.cond_ops.specs.Matching.{IsMatch, SomeMatch, HasMatch, HasNoMatch, IsLookUp}

module _ {X : Type 0} (P : X → Type 0) where
  pub any_here : (x : X) (xs : List X) → P x → Any P (x ∷ xs)
  any_here x xs h = (0, x, omega arith, refl, h)

  pub any_there : (x : X) (xs : List X) → Any P xs → Any P (x ∷ xs)
  any_there x xs (k, y, lt, at, h) = (suc k, y, omega arith, at, h)

  pub any_of : (x : X) (xs : List X) → Any P (x ∷ xs) → P x ⊎ Any P xs
  any_of x xs (zero, y, lt, at, h) = inl (subst P (sym at) h)
  any_of x xs (suc k, y, lt, at, h) = inr (k, y, omega arith, at, h)

  pub any_left : (xs ys : List X) → Any P xs → Any P (xs ++ ys)
  any_left [] ys (k, y, lt, at, h) = absurd (omega arith)
  any_left (x ∷ xs) ys any = elim (any_of x xs any) [ inl h ↦ any_here x (xs ++ ys) h | inr rest ↦ any_there x (xs ++ ys) (any_left xs ys rest) ]

  pub any_right : (xs ys : List X) → Any P ys → Any P (xs ++ ys)
  any_right [] ys any = any
  any_right (x ∷ xs) ys any = any_there x (xs ++ ys) (any_right xs ys any)

  pub any_split : (xs : List X) (y : X) → Any P (xs ++ y ∷ []) → Any P xs ⊎ P y
  any_split [] y any = elim (any_of y [] any) [ inl h ↦ inr h | inr (k, x, lt, at, h) ↦ absurd (omega arith) ]
  any_split (x ∷ xs) y any =
      elim (any_of x (xs ++ y ∷ []) any) [
        | inl h ↦ inl (any_here x xs h)
        | inr rest ↦ elim (any_split xs y rest) [ inl old ↦ inl (any_there x xs old) | inr new ↦ inr new ]
      ]

  pub none_of_all : (xs : List X) → All (λ x. ¬ (P x)) xs → Any P xs → ⊥
  none_of_all xs all (k, x, lt, at, h) = all k x lt (subst P (sym at) h)

  pub not_all : (xs : List X) → Any (λ x. ¬ (P x)) xs → All P xs → ⊥
  not_all xs (k, x, lt, at, fails) all = fails (subst P at (all k x lt))

module _ (P : List ℕ → Type 0) (test : Fact → Bool) where
  abbrev values_of : List Fact → List (List ℕ)
  values_of facts = flat_map (λ (fact : Fact). fact.values) facts

  any_step : (fact : Fact) (rest : List Fact) (b : Bool) → (b ≡ true × Any P fact.values) ⊎ Any P (values_of rest) → Any P (values_of (cond b (fact ∷ rest) rest))
  any_step fact rest true (inl h) = any_left P fact.values (values_of rest) h.1
  any_step fact rest true (inr h) = any_right P fact.values (values_of rest) h
  any_step fact rest false (inl h) = cc
  any_step fact rest false (inr h) = h

  any_value : (facts : List Fact) → Any (λ (fact : Fact). test fact ≡ true × Any P fact.values) facts → Any P (values_of (filter test facts))
  any_value [] (k, x, lt, at, h) = absurd (omega arith)
  any_value (fact ∷ facts) any =
      any_step fact (filter test facts) (test fact)
      (elim (any_of (λ (f : Fact). test f ≡ true × Any P f.values) fact facts any) [ inl h ↦ inl h | inr rest ↦ inr (any_value facts rest) ])

  all_step : (fact : Fact) (rest : List Fact) (b : Bool) → (b ≡ true → All P fact.values) → All P (values_of rest) → All P (values_of (cond b (fact ∷ rest) rest))
  all_step fact rest true here there = All-append P fact.values (values_of rest) (here refl) there
  all_step fact rest false here there = there

  all_values_of : (facts : List Fact) → All (λ (fact : Fact). test fact ≡ true → All P fact.values) facts → All P (values_of (filter test facts))
  all_values_of [] all = λ k d lt. absurd (omega arith)
  all_values_of (fact ∷ facts) all =
      all_step fact (filter test facts) (test fact) (All-head (λ (f : Fact). test f ≡ true → All P f.values) fact facts all)
      (all_values_of facts (All-tail (λ (f : Fact). test f ≡ true → All P f.values) fact facts all))

module _ (condition : Condition) where
  pub some_of_facts : (wanted : Bool) (facts : List Fact) (r : Bool) → MatchBool r (Any (HasMatch condition wanted) facts) (All (HasNoMatch condition wanted) facts)
      → SomeMatch condition wanted (request_values condition.key facts) r
  some_of_facts wanted facts true any = any_value (IsMatch condition wanted) (has_name condition.key) facts any
  some_of_facts wanted facts false all = all_values_of (IsMatch condition (not wanted)) (has_name condition.key) facts all

  module _ (values : List (List ℕ)) where
    pub plain : (r negated : Bool) → SomeMatch condition true values r → IsTrue (not (beq r negated)) ↔ HoldsOfValues Plain negated (ValueMatches condition) values
    plain true false any = (λ h. any, λ h. refl)
    plain true true any = (λ h. cc, λ none. absurd (none any))
    plain false false all = (λ h. cc, λ any. absurd (none_of_all (ValueMatches condition) values all any))
    plain false true all = (λ h any. none_of_all (ValueMatches condition) values all any, λ h. refl)

    pub any_value_of : (r negated : Bool) → SomeMatch condition (not negated) values r → IsTrue r ↔ HoldsOfValues AnyValue negated (ValueMatches condition) values
    any_value_of true false any = (λ h. any, λ h. refl)
    any_value_of true true any = (λ h. any, λ h. refl)
    any_value_of false false all = (λ h. cc, λ any. absurd (none_of_all (ValueMatches condition) values all any))
    any_value_of false true all = (λ h. cc, λ any. absurd (not_all (ValueMatches condition) values any all))

    pub all_values : (r negated : Bool) → SomeMatch condition negated values r → IsTrue (not r) ↔ HoldsOfValues AllValues negated (ValueMatches condition) values
    all_values true false any = (λ h. cc, λ all. absurd (not_all (ValueMatches condition) values any all))
    all_values true true any = (λ h. cc, λ all. absurd (none_of_all (ValueMatches condition) values all any))
    all_values false false all = (λ h. all, λ h. refl)
    all_values false true all = (λ h. all, λ h. refl)

  -- what a look up keeps of the first facts
  module _ (wanted : Bool) where
    pub record LookedUp (facts : List Fact) (i : ℕ) (present : Bool) : Type 0 where
      pub none : All (HasNoMatch condition wanted) (take i facts)
      pub named : present ≡ list_any (has_name condition.key) (take i facts)

    pub none_looked_up : (facts : List Fact) → LookedUp facts 0 false
    none_looked_up facts = record { none = λ k d lt. absurd (omega arith); named = refl }

    module _ (facts : List Fact) (i : ℕ) (fact : Fact) (within : i < length facts) (at : fact ≡ get_or facts i fact) where
      pub found_one : has_name condition.key fact ≡ true → SomeMatch condition wanted fact.values true → IsLookUp condition wanted facts (Some true)
      found_one named some = (
        list_any_at (has_name condition.key) facts i fact within (ap (has_name condition.key) (sym at) ∙ named),
        some_of_facts wanted facts true (i, fact, within, sym at, (named, some)),
      )

      one_more : (b : Bool) → HasNoMatch condition wanted fact → LookedUp facts i b → LookedUp facts (i + 1) (b || has_name condition.key fact)
      one_more b none so_far = record {
        none = All-more (HasNoMatch condition wanted) facts i fact within so_far.none (subst (HasNoMatch condition wanted) at none);
        named =
            ap (λ x. x || has_name condition.key fact) so_far.named
            ∙ (ap (λ f. list_any (has_name condition.key) (take i facts) || has_name condition.key f) at ∙ sym (list_any_more (has_name condition.key) facts i fact within));
      }

      pub passed_named : (b : Bool) → has_name condition.key fact ≡ true → SomeMatch condition wanted fact.values false → LookedUp facts i b → LookedUp facts (i + 1) true
      passed_named b named none so_far = subst (LookedUp facts (i + 1)) (ap (λ n. b || n) named ∙ or_true b) (one_more b (λ h. none) so_far)
        where
          or_true : (x : Bool) → x || true ≡ true
          or_true true = refl
          or_true false = refl

      pub passed_other : (b : Bool) → has_name condition.key fact ≡ false → LookedUp facts i b → LookedUp facts (i + 1) b
      passed_other b other so_far =
          subst (LookedUp facts (i + 1)) (ap (λ n. b || n) other ∙ or_false b) (one_more b (λ h. let bad : false ≡ true = sym other ∙ h in cc) so_far)
        where
          or_false : (x : Bool) → x || false ≡ x
          or_false true = refl
          or_false false = refl

    module _ (facts : List Fact) (i : ℕ) (b : Bool) (past : length facts ≤ i) (done : LookedUp facts i b) where
      pub present_without : b ≡ true → IsLookUp condition wanted facts (Some false)
      present_without is = (
        ap (list_any (has_name condition.key)) (sym (take_all i facts past)) ∙ (sym done.named ∙ is),
        some_of_facts wanted facts false (subst (All (HasNoMatch condition wanted)) (take_all i facts past) done.none),
      )

      pub missing : b ≡ false → IsLookUp condition wanted facts None
      missing is = ap (list_any (has_name condition.key)) (sym (take_all i facts past)) ∙ (sym done.named ∙ is)
