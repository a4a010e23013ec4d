use Rattle.std.proofs.Common.{◌≡◌, rules, arith}
use Rattle.aes_block.specs.Schedule.{first_words}
use Rattle.aes_block.proofs.Expanding.{key_words_more}
use Rattle.aes_block.proofs.schedule.key_words.Goals as goal

pub loop-i-preserved : goal.loop-i-preserved
loop-i-preserved c = (
  search rules,
  key_words_more _ _ _ _ (omega arith) c.loop-i.invariant.1 c.key_word.ensures,
)

pub returns : goal.returns
unfolding first_words
returns c =
    let done : c.loop-i.i ≡ 8 = omega arith in
    rw done at c.loop-i.invariant.1
