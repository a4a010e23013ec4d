use Rattle.aes_block.proofs.WordFacts.{round_column_added}
use Rattle.aes_block.proofs.rounds.round_column.Goals as goal

pub returns : goal.returns
returns c =
    round_column_added c.args.words.now c.args.state.now c.args.n c.args.c c.shifted_column.result c.mixed_column.result
    c.told-words c.requires.round c.requires.column c.shifted_column.ensures c.mixed_column.ensures
