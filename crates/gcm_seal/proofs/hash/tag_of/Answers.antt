use Rattle.std.proofs.Common.{[]}
use Rattle.gcm_seal.proofs.TagFacts.{tag_made}
use Rattle.gcm_seal.proofs.hash.tag_of.Goals as goal

pub returns : goal.returns
returns c =
    tag_made c.args.key.now c.args.iv.now c.args.aad.now c.args.ciphertext.now c.encrypt.result c.lengths_block.result
    c.pre_counter_block.result c.value-tag.result c.gctr.new.text c.encrypt.ensures c.lengths_block.ensures c.pre_counter_block.ensures
    (c.value-tag.ensures c.encrypt.result _
    (c.update_block.ensures c.encrypt.result _
    (c.update_padded-2.ensures c.encrypt.result _ (c.update_padded.ensures c.encrypt.result [] c.new-hash.ensures))))
    c.gctr.ensures
