use Rattle.gcm_seal.proofs.GctrFacts.{xor_lanes}
use Rattle.gcm_seal.proofs.counter.xor_block.Goals as goal

pub returns : goal.returns
returns c = xor_lanes c.args.text.now c.args.mask.now c.requires c.told-mask
