-- Conditions whose texts stand one behind another.
use Rattle.std.proofs.Common.{Bool, rules, ◌≡◌, ◌==◌, ℕ, suc, ◌<◌, ◌≤◌, ◌+◌, true, false, get_or, append_assoc, List, [], ◌∷◌, ◌++◌, length, take, drop, refl, sym, ◌∙◌, ap, subst, arith, map}
use Rattle.std.specs.List.{flat_map}
use Rattle.std.specs.Prelude.{◌↔◌, All, IsTrue}
use Rattle.std.proofs.lemmas.List.{take_at, drop_at, take_more, take_all, drop_more, flat_map_more, map-append}
use Rattle.std.proofs.lemmas.List.Elements.{All-head, All-tail, All-cons}
use Rattle.cond_ops.specs.Compiled.{texts_of, head_of, condition_at, conditions_of}
use Rattle.cond_ops.specs.declared.conditions.Condition.{Condition}
use Rattle.cond_ops.specs.declared.heads.ConditionHead.{ConditionHead}

-- the conditions that were made ready
pub conditions_back : (conditions : List Condition) → conditions_of (map head_of conditions) (flat_map texts_of conditions) ≡ conditions
conditions_back [] = refl
conditions_back (condition ∷ conditions) =
    let values = condition.values in
    let rest = flat_map texts_of conditions in
    rw (take_at values rest (length values) refl, drop_at values rest (length values) refl) (ap (λ cs. condition ∷ cs) (conditions_back conditions))

-- one more condition is made ready
module _ (conditions : List Condition) (i : ℕ) (condition : Condition) (within : i < length conditions) (at : condition ≡ get_or conditions i condition) where
  next_condition : take (i + 1) conditions ≡ take i conditions ++ condition ∷ []
  next_condition = take_more conditions i condition within ∙ ap (λ c. take i conditions ++ c ∷ []) (sym at)

  pub texts_more : (texts : List (List ℕ)) → texts ≡ flat_map texts_of (take i conditions) → (texts ++ condition.key ∷ []) ++ condition.values ≡ flat_map texts_of (take (i + 1) conditions)
  texts_more texts so_far =
      append_assoc texts (condition.key ∷ []) condition.values
      ∙ ap (λ t. t ++ texts_of condition) so_far
      ∙ flat_map_more texts_of [] (take i conditions) condition
      ∙ ap (flat_map texts_of) (sym next_condition)

  pub heads_more : (heads : List ConditionHead) (head : ConditionHead) → head ≡ head_of condition → heads ≡ map head_of (take i conditions) → heads ++ head ∷ [] ≡ map head_of (take (i + 1) conditions)
  heads_more heads head is so_far =
      ap (λ h. heads ++ h ∷ []) is ∙ ap (λ hs. hs ++ head_of condition ∷ []) so_far ∙ sym (map-append head_of (take i conditions) (condition ∷ [])) ∙ ap (map head_of) (sym next_condition)

pub all_ready : (conditions : List Condition) (i : ℕ) (heads : List ConditionHead) (texts : List (List ℕ)) → length conditions ≤ i
    → heads ≡ map head_of (take i conditions) → texts ≡ flat_map texts_of (take i conditions) → conditions_of heads texts ≡ conditions
all_ready conditions i heads texts past are_heads are_texts =
    let all : take i conditions ≡ conditions = take_all i conditions past in
    rw (are_heads, are_texts, all) (conditions_back conditions)

-- there are no conditions where there are no heads, or no texts
none_of_more : (n : ℕ) → (suc n == 0) ≡ false
none_of_more n = search rules

pub none_by_heads : (heads : List ConditionHead) (texts : List (List ℕ)) → (length heads == 0) ≡ true → conditions_of heads texts ≡ []
none_by_heads [] texts none = refl
none_by_heads (head ∷ heads) texts none = let bad : false ≡ true = sym (none_of_more (length heads)) ∙ none in cc

pub none_by_texts : (heads : List ConditionHead) (texts : List (List ℕ)) (r : Bool) → (length heads == 0) ≡ false → r ≡ (length texts == 0) → IsTrue r ↔ (conditions_of heads texts ≡ [])
none_by_texts [] texts r some is = let bad : true ≡ false = some in cc
none_by_texts (head ∷ heads) [] r some is = (λ yes. refl, λ none. is)
none_by_texts (head ∷ heads) (key ∷ texts) r some is = (λ yes. let bad : true ≡ false = sym yes ∙ is ∙ none_of_more (length texts) in cc, λ none. cc)

-- conditions are asked one after another
module _ (heads : List ConditionHead) (i : ℕ) (d : ConditionHead) (texts others : List (List ℕ)) (key : List ℕ) (values rest : List (List ℕ)) (asked : Condition) where
  pub next_asked : i < length heads → texts ≡ key ∷ others → values ≡ take (get_or heads i d).count others → rest ≡ drop (get_or heads i d).count others
      → asked ≡ condition_at (get_or heads i d) key values → conditions_of (drop i heads) texts ≡ asked ∷ conditions_of (drop (i + 1) heads) rest
  next_asked within first are_values is_rest is_asked =
      let head = get_or heads i d in
      let later = drop (i + 1) heads in
      ap (λ hs. conditions_of hs texts) (drop_more heads i d within)
      ∙ ap (conditions_of (head ∷ later)) first
      ∙ ap (λ vs. condition_at head key vs ∷ conditions_of later (drop head.count others)) (sym are_values)
      ∙ ap (λ ts. condition_at head key values ∷ conditions_of later ts) (sym is_rest)
      ∙ ap (λ c. c ∷ conditions_of later rest) (sym is_asked)

pub none_asked : (heads : List ConditionHead) → conditions_of heads [] ≡ []
none_asked [] = refl
none_asked (head ∷ heads) = refl

module _ (P : Condition → Type 0) (Q : Type 0) where
  pub hold_next : (conditions more : List Condition) (condition : Condition) → conditions ≡ condition ∷ more → P condition → All P conditions ↔ Q → All P more ↔ Q
  hold_next conditions more condition next here so_far = (
    λ rest. so_far.0 (subst (All P) (sym next) (All-cons P condition more here rest)),
    λ q. All-tail P condition more (subst (All P) next (so_far.1 q)),
  )

  pub hold_not : (conditions more : List Condition) (condition : Condition) → conditions ≡ condition ∷ more → ¬ (P condition) → All P conditions ↔ Q → ¬ Q
  hold_not conditions more condition next fails so_far q = fails (All-head P condition more (subst (All P) next (so_far.1 q)))

  pub hold_all : (conditions : List Condition) → conditions ≡ [] → All P conditions ↔ Q → Q
  hold_all conditions none so_far = so_far.0 (subst (All P) (sym none) (λ k d lt. absurd (omega arith)))
