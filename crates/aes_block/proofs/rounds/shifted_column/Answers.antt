use Rattle.aes_block.proofs.WordFacts.{shifted_column_is}
use Rattle.aes_block.proofs.rounds.shifted_column.Goals as goal

pub returns : goal.returns
returns c =
    rw (c.to_be_bytes.ensures, c.to_be_bytes-2.ensures, c.to_be_bytes-3.ensures, c.to_be_bytes-4.ensures)
    (shifted_column_is c.args.state.now c.args.c c.told-state c.requires)
