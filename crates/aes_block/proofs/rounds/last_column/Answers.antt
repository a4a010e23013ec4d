use Rattle.std.proofs.Common.{◌∙◌}
use Rattle.aes_block.proofs.WordFacts.{last_column_added}
use Rattle.aes_block.proofs.rounds.last_column.Goals as goal

pub returns : goal.returns
returns c =
    c.to_be_bytes.ensures
    ∙ last_column_added c.args.words.now c.args.state.now c.args.c c.shifted_column.result c.sub_word-column.result c.packed_word.result
    c.told-words c.requires c.shifted_column.ensures c.sub_word-column.ensures c.packed_word.ensures
