use Rattle.std.proofs.Common.{◌≡◌, ◌↔◌, IsTrue, nat_eq, ℕ, ◌<◌, List, length, slice_index, sym, ap, ◌∙◌, arith}
use Rattle.std.proofs.lemmas.Bool.{eqb-true, eq-eqb}
use Rattle.std.proofs.lemmas.List.{ext_get_or}
use Rattle.gcm_seal.proofs.TagFacts.{compared_more}
use Rattle.crypto_ops.proofs.opening.are_equal.Goals as goal

pub loop-i-preserved : goal.loop-i-preserved
loop-i-preserved c = compared_more c.args.left.now c.args.right.now c.loop-i.difference c.loop-i.i c.loop-i.invariant

-- all places compared
compared_all : (xs ys : List ℕ) (difference i : ℕ) → length xs ≡ i → length ys ≡ i
    → (difference ≡ 0) ↔ ((k : ℕ) → k < i → slice_index xs k ≡ slice_index ys k)
    → IsTrue (nat_eq difference 0) ↔ (xs ≡ ys)
compared_all xs ys difference i lx ly so_far = (
  λ same. ext_get_or 0 xs ys (lx ∙ sym ly) (λ k lt. so_far.0 (eqb-true difference 0 same) k (omega arith)),
  λ equal. eq-eqb difference 0 (so_far.1 (λ k lt. ap (λ zs. slice_index zs k) equal)),
)

pub returns : goal.returns
returns c = compared_all c.args.left.now c.args.right.now c.loop-i.difference c.loop-i.i (omega arith) (omega arith) c.loop-i.invariant
