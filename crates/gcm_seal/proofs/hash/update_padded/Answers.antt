use Rattle.std.proofs.Common.{refl, arith}
use Rattle.gcm_seal.proofs.BlockFacts.{padded_more, padded_done, padded_rest}
use Rattle.gcm_seal.proofs.hash.update_padded.Goals as goal

pub loop-i-preserved : goal.loop-i-preserved
loop-i-preserved c =
    λ h blocks start.
    padded_more c.update_block.new.self h c.args.text.now blocks c.whole_block.result c.loop-i.i c.whole_block.ensures
    (c.update_block.ensures h _ (c.loop-i.invariant h blocks start))

pub returns-then-whole-text : goal.returns-then-whole-text
returns-then-whole-text c =
    λ h blocks start.
    padded_rest c.update_block-then-whole-text.new.self h c.args.text.now blocks c.padded_block.result c.loop-i.i _ (omega arith) refl (omega arith)
    c.padded_block.ensures (c.update_block-then-whole-text.ensures h _ (c.loop-i.invariant h blocks start))

pub returns-else-whole-text : goal.returns-else-whole-text
returns-else-whole-text c =
    λ h blocks start. padded_done c.loop-i.hash h c.args.text.now blocks c.loop-i.i (omega arith) (c.loop-i.invariant h blocks start)
