use Rattle.std.proofs.Common.{arith}
use Rattle.aes_block.proofs.Bytes.{SBOX-sub_byte}
use Rattle.aes_block.proofs.sbox.sub_byte.Goals as goal

pub returns : goal.returns
returns c = SBOX-sub_byte c.args.x (omega arith)
