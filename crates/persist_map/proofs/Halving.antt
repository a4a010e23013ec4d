-- A search by halves: what is known of the places that are passed, and how many comparisons it takes.
use Rattle.std.proofs.Common.{◌≡◌, ℕ, ◌+◌, ◌-◌, ◌/◌, ◌^◌, ◌<◌, ◌≤◌, Bool, true, false, List, [], ◌∷◌, nat_eq, length, get_or, map, refl, sym, ap, ◌∙◌, subst, arith}
use Rattle.std.proofs.lemmas.Bool.{false≢true}
use Rattle.std.proofs.lemmas.List.{get_or-map}
use Rattle.std.proofs.lemmas.List.Elements.{at_read}
use Rattle.std.proofs.lemmas.Int.Digits.{length-digits_of_step, length-digits_of-le, number_lt, number_digits_of, all_below_base_digits_of}
use Rattle.std.specs.Int.Digits.{digits_of}
use Rattle.std.specs.List.{AllWithin}
use Rattle.std.specs.List.Sorted.{IsPartitionedBy}
use Rattle.persist_map.specs.Digits.{binary_digits}
use Rattle.persist_map.specs.Parts.{IsCut}

-- a number is below the power of two of its binary digits
lt-digits : (n : ℕ) → n < 2 ^ binary_digits n
unfolding binary_digits
lt-digits n = subst (λ m. m < 2 ^ length (digits_of 2 n)) (number_digits_of 2 n (omega arith)) (number_lt 2 (digits_of 2 n) (all_below_base_digits_of 2 n (omega arith)))

-- more digits for more
pub binary_digits-le : (m n : ℕ) → m ≤ n → binary_digits m ≤ binary_digits n
unfolding binary_digits
binary_digits-le m n le =
    let below = lt-digits n in
    length-digits_of-le 2 (binary_digits n) m (omega arith) (omega arith)

-- half a number has one digit less
pub binary_digits-half : (n : ℕ) → 0 < n → binary_digits n ≡ binary_digits (n / 2) + 1
unfolding binary_digits
binary_digits-half n some = length-digits_of_step 2 n (omega arith) some

-- what is left behind the middle, or before it, has one digit less
pub halved_up : (low high middle : ℕ) → low < high → middle ≡ low + (high - low) / 2 → binary_digits (high - (middle + 1)) + 1 ≤ binary_digits (high - low)
halved_up low high middle some is =
    omega (arith, binary_digits-half (high - low) (omega arith), binary_digits-le (high - (middle + 1)) ((high - low) / 2) (omega arith))

pub halved_down : (low high middle : ℕ) → low < high → middle ≡ low + (high - low) / 2 → binary_digits (middle - low) + 1 ≤ binary_digits (high - low)
halved_down low high middle some is =
    omega (arith, binary_digits-half (high - low) (omega arith), binary_digits-le (middle - low) ((high - low) / 2) (omega arith))

-- the places below low pass the test, and those from high on don't
pub record IsNarrowed {A : Type 0} (passes : A → Bool) (items : List A) (low high : ℕ) : Type 0 where
  pub in_order : low ≤ high
  pub in_range : high ≤ length items
  pub front : AllWithin (λ item. passes item ≡ true) items 0 low
  pub back : AllWithin (λ item. passes item ≡ false) items high (length items)

by_bool : (b : Bool) (P : Type 0) → (b ≡ true → P) → (b ≡ false → P) → P
by_bool true P on_true on_false = on_true refl
by_bool false P on_true on_false = on_false refl

module _ {A : Type 0} (passes : A → Bool) (items : List A) where
  pub narrowed_whole : IsNarrowed passes items 0 (length items)
  narrowed_whole = record {
    in_order = omega arith;
    in_range = omega arith;
    front = λ k d a b. absurd (omega arith);
    back = λ k d a b. absurd (omega arith);
  }

  pub cut_from_narrowed : (low high : ℕ) → IsNarrowed passes items low high → high ≤ low → IsCut passes items low
  cut_from_narrowed low high known met = record {
    in_range = omega (arith, known.in_order, known.in_range);
    front = known.front;
    back = λ k d a b. known.back k d (omega (arith, known.in_order)) b;
  }

module _ {A : Type 0} (passes : A → Bool) (items : List A) (parted : IsPartitionedBy passes items) (low high middle : ℕ) (known : IsNarrowed passes items low high) (after : low ≤ middle) (before : middle < high) (item : A) (read : item ≡ get_or items middle item) where
  pub narrowed_up : passes item ≡ true → IsNarrowed passes items (middle + 1) high
  narrowed_up passed = record {
    in_order = omega arith;
    in_range = known.in_range;
    front = λ k d a b. parted k middle d (omega arith) (omega (arith, known.in_range)) (at_read items (λ x. passes x ≡ true) middle item (omega (arith, known.in_range)) read passed d);
    back = known.back;
  }

  pub narrowed_down : passes item ≡ false → IsNarrowed passes items low middle
  narrowed_down failed = record {
    in_order = after;
    in_range = omega (arith, known.in_range);
    front = known.front;
    back = λ k d a b. by_bool (passes (get_or items k d)) (passes (get_or items k d) ≡ false)
        (λ e. absurd (false≢true (sym (at_read items (λ x. passes x ≡ false) middle item (omega (arith, known.in_range)) read failed d) ∙ parted middle k d a b e)))
        (λ e. e);
  }

-- an item that was read from a list, in the list of the values
pub read_mapped : {A B : Type 0} (f : A → B) (items : List A) (place : ℕ) (item : A) → place < length items → item ≡ get_or items place item → f item ≡ get_or (map f items) place (f item)
read_mapped f items place item in_range read = ap f read ∙ sym (get_or-map f items place item (f item) in_range)

-- the value of an item that was read from a list
pub read_value : {A B : Type 0} (f : A → B) (items : List A) (place : ℕ) (item : A) (value d : B) → place < length items → item ≡ get_or items place item → value ≡ f item → value ≡ get_or (map f items) place d
read_value f items place item value d in_range read is = is ∙ ap f read ∙ sym (get_or-map f items place item d in_range)

-- a list that isn't empty
pub some_items : {A : Type 0} (items : List A) (b : Bool) → b ≡ nat_eq (length items) 0 → b ≡ false → 0 < length items
some_items [] b is e = absurd (false≢true (sym e ∙ is))
some_items (item ∷ items) b is e = omega arith
