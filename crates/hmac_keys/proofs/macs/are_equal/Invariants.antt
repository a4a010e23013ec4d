use Rattle.std.proofs.Common.{◌≡◌, ◌↔◌, ℕ, ◌<◌, slice_index}
use Rattle.hmac_keys.proofs.macs.are_equal.Given as goal

abbrev pub invariant-loop-i : goal.invariant-loop-i
invariant-loop-i l = (l.difference ≡ 0) ↔ ((k : ℕ) → k < l.i → slice_index l.wanted k ≡ slice_index l.given k)
