-- Two MACs compared.
use Rattle.std.proofs.Common.{◌≡◌, ◌↔◌, IsTrue, nat_eq, ℕ, ◌+◌, ◌<◌, ◌≤◌, List, length, slice_index, bit_xor, bit_or, sym, ap, ◌∙◌, arith, below_more}
use Rattle.std.specs.Int.Bits.{xor_assoc, xor_self, xor_zero_l, xor_zero_r, or_zero_l}
use Rattle.std.proofs.lemmas.Nat.{le_or_l, le_or_r}
use Rattle.std.proofs.lemmas.Bool.{eqb-true, eq-eqb}
use Rattle.std.proofs.lemmas.List.{ext_get_or}

-- numbers whose exclusive or is 0 are equal
equal_from_xor : (a b : ℕ) → bit_xor a b ≡ 0 → a ≡ b
equal_from_xor a b e =
    sym (xor_zero_r a) ∙ ap (bit_xor a) (sym (xor_self b)) ∙ sym (xor_assoc a b b) ∙ ap (λ n. bit_xor n b) e ∙ xor_zero_l b

xor_from_equal : (a b : ℕ) → a ≡ b → bit_xor a b ≡ 0
xor_from_equal a b e = ap (λ n. bit_xor n b) e ∙ xor_self b

-- one place more of two lists compared
pub compared_more : (xs ys : List ℕ) (difference i : ℕ)
    → (difference ≡ 0) ↔ ((k : ℕ) → k < i → slice_index xs k ≡ slice_index ys k)
    → (bit_or difference (bit_xor (slice_index xs i) (slice_index ys i)) ≡ 0)
    ↔ ((k : ℕ) → k < i + 1 → slice_index xs k ≡ slice_index ys k)
compared_more xs ys difference i so_far =
    let here : ℕ = bit_xor (slice_index xs i) (slice_index ys i) in
    let least : difference ≤ bit_or difference here = le_or_l difference here in
    let least' : here ≤ bit_or difference here = le_or_r difference here in (
      λ none.
          below_more (λ k. slice_index xs k ≡ slice_index ys k) i (so_far.0 (omega arith))
          (equal_from_xor (slice_index xs i) (slice_index ys i) (omega arith)),
      λ each.
          let before : difference ≡ 0 = so_far.1 (λ k lt. each k (omega arith)) in
          let there : here ≡ 0 = xor_from_equal (slice_index xs i) (slice_index ys i) (each i (omega arith)) in
          ap (λ n. bit_or n here) before ∙ or_zero_l here ∙ there,
    )

-- all 32 places compared
pub compared_all : (wanted given : List ℕ) (difference i : ℕ) → length wanted ≡ 32 → length given ≡ 32 → i ≡ 32
    → (difference ≡ 0) ↔ ((k : ℕ) → k < i → slice_index wanted k ≡ slice_index given k)
    → IsTrue (nat_eq difference 0) ↔ (given ≡ wanted)
compared_all wanted given difference i lw lg e so_far = (
  λ same. sym (ext_get_or 0 wanted given (lw ∙ sym lg) (λ k lt. so_far.0 (eqb-true difference 0 same) k (omega arith))),
  λ equal. eq-eqb difference 0 (so_far.1 (λ k lt. ap (λ zs. slice_index zs k) (sym equal))),
)
