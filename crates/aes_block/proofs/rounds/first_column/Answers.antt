use Rattle.aes_block.proofs.WordFacts.{first_column_added}
use Rattle.aes_block.proofs.rounds.first_column.Goals as goal

pub returns : goal.returns
returns c =
    first_column_added c.args.words.now c.args.block.now c.args.c c.packed_word.result c.told-words c.requires c.packed_word.ensures
