use Rattle.std.proofs.Common.{◌∙◌}
use Rattle.aes_block.specs.State.{sub_bytes, shift_rows, mix_columns}
use Rattle.aes_block.specs.Cipher.{round}
use Rattle.aes_block.specs.Words.{bytes_of, words_of}
use Rattle.aes_block.proofs.WordFacts.{bytes_of-four, columns_joined}
use Rattle.aes_block.proofs.rounds.round.Goals as goal

pub returns : goal.returns
unfolding round
returns c =
    bytes_of-four c.round_column.result c.round_column-2.result c.round_column-3.result c.round_column-4.result
    ∙ columns_joined (mix_columns (shift_rows (sub_bytes (bytes_of c.args.state.now)))) (words_of c.args.words.now) c.args.n _ _ _ _
    c.round_column.ensures c.round_column-2.ensures c.round_column-3.ensures c.round_column-4.ensures
