use Rattle.gcm_seal.proofs.BlockFacts.{concat-blocks_of, block_is_whole, last_block_is_short}
use Rattle.gcm_seal.proofs.laws.blocks_make_the_text.Goals as goal

pub returns : goal.returns
returns c = λ text. (concat-blocks_of text, block_is_whole text, last_block_is_short text)
