use Rattle.std.proofs.Common.{◌≡◌, length, take, map}
use Rattle.std.specs.List.{range_with_len}
use Rattle.aes_block.specs.Schedule.{key_word}
use Rattle.aes_block.proofs.schedule.key_words.Given as goal

abbrev pub invariant-loop-i : goal.invariant-loop-i
invariant-loop-i l = (length l.words ≡ 60) × (take l.i l.words ≡ map (key_word l.key) (range_with_len 0 l.i))
