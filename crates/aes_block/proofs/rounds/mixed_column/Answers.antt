use Rattle.std.proofs.Common.{slice_index, arith}
use Rattle.aes_block.specs.Schedule.{sub_word}
use Rattle.aes_block.proofs.Tables.{mixed_column_is}
use Rattle.aes_block.proofs.rounds.mixed_column.Goals as goal

pub returns : goal.returns
unfolding sub_word
returns c =
    let x = c.args.column in
    mixed_column_is (slice_index x 0) (slice_index x 1) (slice_index x 2) (slice_index x 3) (omega arith) (omega arith) (omega arith) (omega arith)
