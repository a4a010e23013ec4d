use Rattle.std.proofs.Common.{◌≡◌, length, take}
use Rattle.aes_block.specs.Words.{words_of}
use Rattle.aes_block.proofs.schedule.packed.Given as goal

abbrev pub invariant-loop-i : goal.invariant-loop-i
invariant-loop-i l = (length l.out ≡ 60) × (words_of (take l.i l.out) ≡ take l.i l.words)
