use Rattle.std.proofs.Common.{◌∙◌}
use Rattle.aes_block.specs.Words.{words_of}
use Rattle.aes_block.proofs.WordFacts.{bytes_of-four, columns_joined}
use Rattle.aes_block.proofs.rounds.first_state.Goals as goal

pub returns : goal.returns
returns c =
    bytes_of-four c.first_column.result c.first_column-2.result c.first_column-3.result c.first_column-4.result
    ∙ columns_joined c.args.block.now (words_of c.args.words.now) 0 _ _ _ _
    c.first_column.ensures c.first_column-2.ensures c.first_column-3.ensures c.first_column-4.ensures
