-- The two halves of a part that is too long.
use Rattle.std.proofs.Common.{◌≡◌, ℕ, ◌+◌, ◌-◌, ◌<◌, ◌≤◌, List, [], ◌∷◌, ◌++◌, length, map, take, drop, sym, ap, ◌∙◌, subst, arith}
use Rattle.std.proofs.lemmas.List.{length-map, length-take, length-drop, take-append-drop, map-append, append-nil}
use Rattle.std.proofs.lemmas.List.Elements.{All-cons, All-nil}
use Rattle.persist_map.specs.Parts.{HaveSizes, joined}
use Rattle.persist_map.specs.declared.parts.TheConstants.{PART_MAX}

module _ {A B : Type 0} (f : A → B) (items : List A) (n : ℕ) (all : List (List B)) (is : all ≡ map f (take n items) ∷ map f (drop n items) ∷ []) where
  pub halves_joined : joined all ≡ map f items
  halves_joined =
      ap joined is ∙ ap (λ l. map f (take n items) ++ l) (append-nil (map f (drop n items)))
      ∙ sym (map-append f (take n items) (drop n items)) ∙ ap (map f) (take-append-drop n items)

  pub halves_sizes : 0 < n → n < length items → n ≤ PART_MAX → length items ≤ n + PART_MAX → HaveSizes all
  halves_sizes some more first second =
      let HasSize : List B → Type 0 = λ part. (0 < length part) × (length part ≤ PART_MAX) in
      let front : length (map f (take n items)) ≡ n = omega (arith, length-map (take n items) f, length-take n items) in
      let back : length (map f (drop n items)) ≡ length items - n = omega (arith, length-map (drop n items) f, length-drop n items) in
      subst HaveSizes (sym is) (All-cons HasSize (map f (take n items)) (map f (drop n items) ∷ []) (omega arith, omega arith) (All-cons HasSize (map f (drop n items)) [] (omega arith, omega arith) (All-nil HasSize)))
