-- The items of a list, one after another.
use Rattle.std.proofs.Common.{◌≡◌, ◌<◌, ◌≤◌, ◌+◌, ℕ, suc, List, [], ◌∷◌, length, drop, get_or, Result, Ok, Err, refl, sym, ap, ◌∙◌, arith, subst}
use Rattle.std.proofs.Math.Seq.{drop-cons}
use Rattle.std.proofs.lemmas.List.{drop_all}
use Rattle.serde_json.specs.Data.{Data, item}
use Rattle.serde_json.specs.View.{view, items_view}
use Rattle.serde_json.specs.declared.value.Value.{Value}
use Rattle.policy_doc.specs.Texts.{items_len}
use Rattle.kms_config.specs.declared.faults.ConfigFault.{ConfigFault}
use Rattle.kms_config.specs.declared.faults.ConfigFault.TheVariants.{At, NoMemory}
use Rattle.kms_config.specs.Answers.{Answers, ◌>>=◌}
use Rattle.kms_config.specs.Lists.{items_from}

item_at : (values : List Value) (i : ℕ) (value : Value) → i < length values → value ≡ get_or values i value → items_view (drop i values) ≡ item (view value) (items_view (drop (i + 1) values))
item_at values i value within is =
    let next : suc i ≡ i + 1 = omega arith in
    ap items_view (drop-cons values i value within) ∙ ap (λ (v : Value). item (view v) (items_view (drop (suc i) values))) (sym is) ∙ ap (λ (n : ℕ). item (view value) (items_view (drop n values))) next

-- where what comes first is refused, so is all
pub stopped : {A B : Type 0} (first : Result A (List ℕ)) (then : A → Result B (List ℕ)) (why : ConfigFault) → Answers first (Err why) → Answers {A = B} (first >>= then) (Err why)
stopped first then (At text) h = rw h refl
stopped first then NoMemory h = tt

-- where what comes first is there, the rest decides
pub passed : {A B : Type 0} (first : Result A (List ℕ)) (then : A → Result B (List ℕ)) (x : A) → first ≡ Ok x → (first >>= then) ≡ then x
passed first then x e = rw e refl

module _ {A : Type 0} (next : A → ℕ → Data → Result A (List ℕ)) (values : List Value) where
  abbrev pub Left : A → ℕ → Result A (List ℕ)
  Left had i = items_from next had i (items_view (drop i values))

  pub none_left : (had : A) (i : ℕ) → length values ≤ i → Left had i ≡ Ok had
  none_left had i past = ap (λ vs. items_from next had i (items_view vs)) (drop_all i values past)

  module _ (had : A) (i : ℕ) (value : Value) (within : i < length values) (is : value ≡ get_or values i value) where
    one_left : Left had i ≡ (next had i (view value) >>= (λ new. items_from next new (i + 1) (items_view (drop (i + 1) values))))
    one_left = ap (items_from next had i) (item_at values i value within is)

    pub one_read : (new : A) → next had i (view value) ≡ Ok new → Left had i ≡ Left new (i + 1)
    one_read new e = one_left ∙ passed (next had i (view value)) (λ new. items_from next new (i + 1) (items_view (drop (i + 1) values))) new e

    pub one_refused : (why : ConfigFault) → Answers (next had i (view value)) (Err why) → Answers {A = A} (Left had i) (Err why)
    one_refused why h =
        subst (λ w. Answers {A = A} w (Err why)) (sym one_left) (stopped (next had i (view value)) (λ new. items_from next new (i + 1) (items_view (drop (i + 1) values))) why h)

pub items_len-view : (values : List Value) → items_len (items_view values) ≡ length values
items_len-view [] = refl
items_len-view (value ∷ values) = let more : items_len (items_view values) ≡ length values = items_len-view values in omega arith
