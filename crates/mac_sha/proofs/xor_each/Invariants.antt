use Rattle.std.proofs.Common.{◌≡◌, ◌++◌, take, drop, map}
use Rattle.std.specs.Prelude.{bit_xor}
use Rattle.mac_sha.proofs.xor_each.Given as goal

-- the bytes passed so far are done, and the others are as they were
abbrev pub invariant-loop-byte : goal.invariant-loop-byte
invariant-loop-byte l =
    l.byte-items ≡ map (λ byte. bit_xor byte l.pad) (take l.byte-index l.fn.block) ++ drop l.byte-index l.fn.block
