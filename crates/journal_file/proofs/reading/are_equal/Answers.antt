use Rattle.std.proofs.Common.{arith}
use Rattle.hmac_keys.proofs.MacFacts.{compared_more, compared_all}
use Rattle.journal_file.proofs.reading.are_equal.Goals as goal

pub loop-i-preserved : goal.loop-i-preserved
loop-i-preserved c = compared_more c.args.left.now c.args.right.now c.loop-i.difference c.loop-i.i c.loop-i.invariant

pub returns : goal.returns
returns c =
    compared_all c.args.left.now c.args.right.now c.loop-i.difference c.loop-i.i (omega arith) (omega arith) (omega arith) c.loop-i.invariant
