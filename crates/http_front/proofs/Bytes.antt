-- Lists of bytes.
use Rattle.std.proofs.Common.{◌≡◌, ◌≤◌, ◌-◌, ℕ, List, [], ◌∷◌, ◌++◌, length, take, drop, true, refl, ap, ◌∙◌, slice_range, arith, nat_eq}
use Rattle.std.proofs.lemmas.List.{take-append-le, drop-append-le, append_cancel_left}
use Rattle.std.proofs.Common.{length-drop}
use lib.Pointwise.{pointwise}
use Rattle.std.proofs.lemmas.Slice.Eq.{slice_eq-Decides}
use Rattle.std.proofs.lemmas.Bool.Decides.{Decides-eqb}

pub same_bytes : (xs ys : List ℕ) → true ≡ pointwise nat_eq xs ys → xs ≡ ys
same_bytes xs ys e = (slice_eq-Decides Decides-eqb xs ys true e).0 refl

pub same_front : (a x y : List ℕ) → a ++ x ≡ a ++ y → x ≡ y
same_front a x y e = append_cancel_left a x y e

pub same_sizes : (a b x y : List ℕ) → length a ≡ length b → a ++ x ≡ b ++ y → (a ≡ b) × (x ≡ y)
same_sizes [] [] x y h e = (refl, e)
same_sizes [] (d ∷ b) x y h e = absurd (omega arith)
same_sizes (c ∷ a) [] x y h e = absurd (omega arith)
same_sizes (c ∷ a) (d ∷ b) x y h e = let rest = same_sizes a b x y (omega arith) cc in let tail : a ≡ b = rest.0 in let head : c ≡ d = cc in (cc, rest.1)

-- a range of the front stays where more follows
pub range_on : (bytes more : List ℕ) (start end : ℕ) → start ≤ end → end ≤ length bytes → slice_range (bytes ++ more) start end ≡ slice_range bytes start end
range_on bytes more start end ordered fits =
    let within : start ≤ length bytes = omega arith in
    let size : end - start ≤ length (drop start bytes) = omega (arith, length-drop start bytes) in
    ap (take (end - start)) (drop-append-le start bytes more within) ∙ take-append-le (end - start) (drop start bytes) more size
