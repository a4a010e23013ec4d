use Rattle.std.proofs.Common.{◌≡◌, ◌≤◌, ℕ, ◌<◌, bit_xor, slice_index}
use Rattle.gcm_seal.proofs.counter.xor_into.Given as goal

abbrev pub invariant-loop-i : goal.invariant-loop-i
invariant-loop-i l =
    ((k : ℕ) → k < l.i → slice_index l.text k ≡ bit_xor (slice_index l.fn.text k) (slice_index l.mask k))
    × ((k : ℕ) → l.i ≤ k → slice_index l.text k ≡ slice_index l.fn.text k)
