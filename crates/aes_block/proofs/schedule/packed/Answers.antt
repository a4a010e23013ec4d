use Rattle.std.proofs.Common.{rules, refl, arith}
use Rattle.aes_block.specs.Words.{words_of}
use Rattle.aes_block.proofs.Expanding.{packed_more, packed_all}
use Rattle.aes_block.proofs.schedule.packed.Goals as goal

pub loop-i-init : goal.loop-i-init
unfolding words_of
loop-i-init c = (refl, refl)

pub loop-i-preserved : goal.loop-i-preserved
loop-i-preserved c = (
  search rules,
  packed_more c.args.words.now c.loop-i.out c.loop-i.i c.packed_word.result (omega arith) (omega arith) c.loop-i.invariant.1 c.packed_word.ensures,
)

pub returns : goal.returns
returns c = packed_all c.args.words.now c.loop-i.out c.loop-i.i (omega arith) c.told-words c.loop-i.invariant.0 c.loop-i.invariant.1
