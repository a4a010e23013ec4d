use Rattle.std.proofs.Common.{refl}
use Rattle.cond_ops.proofs.qualified.after_prefix.Goals as goal

pub returns : goal.returns
returns c = (refl, λ plain other. (c.in_default.ensures other, c.in_default-after.ensures other))
