use Rattle.pass_laws.proofs.Fronts.{held_before}
use Rattle.pass_laws.proofs.moments.moments_agree.Goals as goal

pub returns : goal.returns
returns g c = λ before earlier calls more. held_before c.args.one.now before c.args.other.now earlier c.agrees.ensures calls more
