use Rattle.aes_block.proofs.Expanding.{rcon-shifted}
use Rattle.aes_block.proofs.schedule.rcon.Goals as goal

pub returns : goal.returns
returns c = rcon-shifted c.args.j c.requires.low c.requires.high
