use Rattle.std.proofs.Common.{◌≡◌, ◌≤◌, length, take}
use Rattle.enc_context.specs.Encoding.{encoding_of}
use Rattle.enc_context.proofs.encoding.size_within_limit.Given as goal

abbrev pub invariant-loop-pair : goal.invariant-loop-pair
invariant-loop-pair l = (l.size ≡ length (encoding_of (take l.pair-index l.pairs))) × (l.size ≤ 8192)
