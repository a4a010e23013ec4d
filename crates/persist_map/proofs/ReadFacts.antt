-- What a read of a list of shared values gives.
use Rattle.std.proofs.Common.{◌≡◌, ℕ, suc, ◌-◌, ◌<◌, true, false, cond, List, ◌∷◌, length, get_or, map, take, drop, Some, None, sym, ap, ◌∙◌, subst, arith}
use Rattle.std.proofs.lemmas.List.{length-map, get_or-map, take-map, drop-map, take_rest}
use Rattle.std.proofs.Math.Seq.{drop-cons}
use Rattle.std.specs.declared.cmp.Ordering.{Ordering}
use Rattle.std.specs.Ordering.{is_eq}
use Rattle.persist_map.specs.Parts.{begins_with, first_value}

-- the values from a place on, where an item was read there
pub drop_read : {A B : Type 0} (f : A → B) (items read : List A) (values : List B) (place : ℕ) (item : A) → read ≡ items → map f items ≡ values → place < length read → item ≡ get_or read place item → drop place values ≡ f item ∷ drop (suc place) values
drop_read f items read values place item same seen in_range is =
    let all : map f read ≡ values = ap (map f) same ∙ seen in
    let here : get_or (map f read) place (f item) ≡ f item = get_or-map f read place item (f item) in_range ∙ ap f (sym is) in
    let in_values : place < length (map f read) = omega (arith, length-map read f) in
    subst (λ l. drop place l ≡ f item ∷ drop (suc place) l) all (drop-cons (map f read) place (f item) in_values ∙ ap (λ x. x ∷ drop (suc place) (map f read)) here)

module _ {K V : Type 0} (cmp : K → K → Ordering) (key : K) (pairs rest : List (K × V)) (pair : K × V) (is : pairs ≡ pair ∷ rest) where
  pub first_has_key : begins_with cmp key pairs ≡ is_eq (cmp pair.0 key)
  first_has_key = ap (begins_with cmp key) is

  pub first_value_there : is_eq (cmp pair.0 key) ≡ true → first_value cmp key pairs ≡ Some pair.1
  first_value_there e = ap (first_value cmp key) is ∙ ap (λ b. cond b (Some pair.1) None) e

  pub first_value_missing : is_eq (cmp pair.0 key) ≡ false → first_value cmp key pairs ≡ None
  first_value_missing e = ap (first_value cmp key) is ∙ ap (λ b. cond b (Some pair.1) None) e

-- the values of a list's front and back
module _ {A B : Type 0} (f : A → B) (items read : List A) (values : List B) (same : read ≡ items) (seen : map f items ≡ values) where
  pub seen_front : (n : ℕ) → map f (take n read) ≡ take n values
  seen_front n = sym (take-map f n read) ∙ ap (take n) (ap (map f) same ∙ seen)

  pub seen_back : (n : ℕ) → map f (take (length read - n) (drop n read)) ≡ drop n values
  seen_back n =
      ap (map f) (take_rest read n)
      ∙ sym (drop-map f n read) ∙ ap (drop n) (ap (map f) same ∙ seen)
