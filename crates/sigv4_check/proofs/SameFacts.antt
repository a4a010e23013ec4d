-- Equal bytes, one after another.
use Rattle.std.proofs.Common.{◌≡◌, ◌≢◌, ℕ, zero, suc, ◌+◌, ◌<◌, ◌≤◌, List, [], ◌∷◌, length, take, get_or, Bool, true, false, ◌&&◌, eqb, bit_or, bit_xor, refl, sym, ap, ap₂, ◌∙◌, arith}
use Rattle.std.proofs.lemmas.Bool.{eqb-true, eqb-false}
use Rattle.std.proofs.lemmas.Bool.Decides.{nat_tests}
use Rattle.std.proofs.lemmas.List.{take_all}
use Rattle.std.proofs.lemmas.Nat.{le_or_l, le_or_r}
use Rattle.std.specs.Int.Bits.{or_zero_l, xor_assoc, xor_self, xor_zero_l, xor_zero_r}
use Rattle.std.specs.Str.{bytes_eq}

and_true : (b : Bool) → b ≡ (b && true)
and_true true = refl
and_true false = refl

and_assoc : (a b c : Bool) → ((a && b) && c) ≡ (a && (b && c))
and_assoc true b c = refl
and_assoc false b c = refl

right : (a b : Bool) → (a && b) ≡ true → b ≡ true
right true b h = h
right false b h = cc

same_suc : (a b : List ℕ) (i : ℕ) → i < length a → i < length b
    → (bytes_eq (take i a) (take i b) && eqb (get_or a i 0) (get_or b i 0)) ≡ bytes_eq (take (suc i) a) (take (suc i) b)
same_suc [] b i h k = absurd (omega arith)
same_suc (x ∷ a) [] i h k = absurd (omega arith)
same_suc (x ∷ a) (y ∷ b) zero h k = and_true (eqb x y)
same_suc (x ∷ a) (y ∷ b) (suc i) h k =
    and_assoc (eqb x y) (bytes_eq (take i a) (take i b)) (eqb (get_or a i 0) (get_or b i 0))
    ∙ ap (λ (t : Bool). eqb x y && t) (same_suc a b i (omega arith) (omega arith))

pub same_more : (a b : List ℕ) (i : ℕ) → i < length a → i < length b
    → (bytes_eq (take i a) (take i b) && eqb (get_or a i 0) (get_or b i 0)) ≡ bytes_eq (take (i + 1) a) (take (i + 1) b)
same_more a b i h k =
    let e : suc i ≡ i + 1 = omega arith in
    same_suc a b i h k ∙ ap (λ (n : ℕ). bytes_eq (take n a) (take n b)) e

-- ---- differences that are joined

same_of_xor : (x y : ℕ) → bit_xor x y ≡ 0 → x ≡ y
same_of_xor x y e = sym (xor_zero_r x) ∙ ap (bit_xor x) (sym (xor_self y)) ∙ sym (xor_assoc x y y) ∙ ap (λ (d : ℕ). bit_xor d y) e ∙ xor_zero_l y

xor_of_same : (x y : ℕ) → x ≡ y → bit_xor x y ≡ 0
xor_of_same x y e = ap (λ (z : ℕ). bit_xor z y) e ∙ xor_self y

or_of_zeros : (d e : ℕ) → d ≡ 0 → e ≡ 0 → bit_or d e ≡ 0
or_of_zeros d e p q = ap₂ bit_or p q ∙ or_zero_l 0

no_difference_by : (d x y : ℕ) (s t u : Bool) → eqb d 0 ≡ s → eqb x y ≡ t → eqb (bit_or d (bit_xor x y)) 0 ≡ u → u ≡ (s && t)
no_difference_by d x y true true true p q r = refl
no_difference_by d x y true true false p q r = absurd (eqb-false (bit_or d (bit_xor x y)) 0 r (or_of_zeros d (bit_xor x y) (eqb-true d 0 p) (xor_of_same x y (eqb-true x y q))))
no_difference_by d x y true false true p q r = absurd (eqb-false x y q (same_of_xor x y (omega (arith, le_or_r d (bit_xor x y), eqb-true (bit_or d (bit_xor x y)) 0 r))))
no_difference_by d x y true false false p q r = refl
no_difference_by d x y false t true p q r = absurd (eqb-false d 0 p (omega (arith, le_or_l d (bit_xor x y), eqb-true (bit_or d (bit_xor x y)) 0 r)))
no_difference_by d x y false t false p q r = refl

-- no difference so far, and none between two more
pub no_difference : (d x y : ℕ) → eqb (bit_or d (bit_xor x y)) 0 ≡ (eqb d 0 && eqb x y)
no_difference d x y = no_difference_by d x y (eqb d 0) (eqb x y) (eqb (bit_or d (bit_xor x y)) 0) refl refl refl

pub same_all : (a b : List ℕ) (n : ℕ) → length a ≤ n → length b ≤ n → bytes_eq (take n a) (take n b) ≡ bytes_eq a b
same_all a b n h k = ap (λ (x : List ℕ). bytes_eq x (take n b)) (take_all n a h) ∙ ap (bytes_eq a) (take_all n b k)

-- texts of different lengths
pub same_length : (a b : List ℕ) → bytes_eq a b ≡ true → length a ≡ length b
same_length [] [] e = refl
same_length [] (y ∷ b) e = cc
same_length (x ∷ a) [] e = cc
same_length (x ∷ a) (y ∷ b) e = let h = same_length a b (right (eqb x y) (bytes_eq a b) e) in omega (arith, h)

not_same_by : (a b : List ℕ) (t : Bool) → bytes_eq a b ≡ t → length a ≢ length b → false ≡ bytes_eq a b
not_same_by a b true e h = absurd (h (same_length a b e))
not_same_by a b false e h = sym e

pub not_same : (a b : List ℕ) → length a ≢ length b → false ≡ bytes_eq a b
not_same a b h = not_same_by a b (bytes_eq a b) refl h

left : (a b : Bool) → (a && b) ≡ true → a ≡ true
left true b h = refl
left false b h = h

-- texts whose bytes are equal
pub same_bytes : (a b : List ℕ) → bytes_eq a b ≡ true → a ≡ b
same_bytes [] [] e = refl
same_bytes [] (y ∷ b) e = cc
same_bytes (x ∷ a) [] e = cc
same_bytes (x ∷ a) (y ∷ b) e = ap₂ (λ (h : ℕ) (t : List ℕ). h ∷ t) (eqb-true x y (left (eqb x y) (bytes_eq a b) e)) (same_bytes a b (right (eqb x y) (bytes_eq a b) e))

eqb_comm : (a b : ℕ) → eqb a b ≡ eqb b a
eqb_comm a b = grind (arith, nat_tests)

pub bytes_eq_comm : (a b : List ℕ) → bytes_eq a b ≡ bytes_eq b a
bytes_eq_comm [] [] = refl
bytes_eq_comm [] (y ∷ b) = refl
bytes_eq_comm (x ∷ a) [] = refl
bytes_eq_comm (x ∷ a) (y ∷ b) = ap₂ (λ (h t : Bool). h && t) (eqb_comm x y) (bytes_eq_comm a b)
