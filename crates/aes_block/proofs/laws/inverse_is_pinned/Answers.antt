use Rattle.aes_block.proofs.Bytes.{inverse-pinned, inverse-zero}
use Rattle.aes_block.proofs.laws.inverse_is_pinned.Goals as goal

pub returns-clause-pinned : goal.returns-clause-pinned
returns-clause-pinned c = inverse-pinned

pub returns-clause-at_zero : goal.returns-clause-at_zero
returns-clause-at_zero c = inverse-zero
