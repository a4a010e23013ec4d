use Rattle.std.proofs.Common.{arith}
use Rattle.gcm_seal.proofs.TagFacts.{compared_more, compared_all}
use Rattle.gcm_seal.proofs.gcm.are_equal.Goals as goal

pub loop-i-preserved : goal.loop-i-preserved
loop-i-preserved c = compared_more c.args.left.now c.args.right.now c.loop-i.difference c.loop-i.i c.loop-i.invariant

pub returns : goal.returns
returns c =
    compared_all c.args.left.now c.args.right.now c.loop-i.difference c.loop-i.i c.told-left c.told-right (omega arith) c.loop-i.invariant
