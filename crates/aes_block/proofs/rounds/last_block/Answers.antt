use Rattle.std.proofs.Common.{length, ap, ◌∙◌}
use Rattle.aes_block.specs.State.{sub_bytes, shift_rows}
use Rattle.aes_block.specs.Words.{bytes_of, words_of}
use Rattle.aes_block.proofs.WordFacts.{block_written, columns_joined}
use Rattle.aes_block.proofs.rounds.last_block.Goals as goal

pub returns : goal.returns
returns c =
    let e0 = c.copy_from_slice.ensures.after ∙ c.last_column.ensures in
    let e1 = c.copy_from_slice-2.ensures.after ∙ c.last_column-2.ensures in
    let e2 = c.copy_from_slice-3.ensures.after ∙ c.last_column-3.ensures in
    let e3 = c.copy_from_slice-4.ensures.after ∙ c.last_column-4.ensures in
    block_written _ _ _ _ (ap length e0) (ap length e1) (ap length e2) (ap length e3)
    ∙ columns_joined (shift_rows (sub_bytes (bytes_of c.args.state.now))) (words_of c.args.words.now) 14 _ _ _ _ e0 e1 e2 e3
