use Rattle.std.proofs.Common.{rules, arith, ap, ◌-◌, ◌∙◌}
use Rattle.aes_block.specs.State.{word}
use Rattle.aes_block.specs.Schedule.{xor_words}
use Rattle.aes_block.proofs.Expanding.{first_words_more, key_expansion-filled}
use Rattle.aes_block.proofs.schedule.key_expansion.Goals as goal

pub loop-i-preserved : goal.loop-i-preserved
loop-i-preserved c = (
  search rules,
  first_words_more _ _ _ _ (omega arith) (omega arith) c.loop-i.invariant.1 (c.xor_words.ensures ∙ ap (xor_words (word c.loop-i.words (c.loop-i.i - 8))) c.key_term.ensures),
)

pub returns : goal.returns
returns c = key_expansion-filled _ _ c.loop-i.i (omega arith) c.loop-i.invariant.0 c.loop-i.invariant.1
