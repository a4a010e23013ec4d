use Rattle.std.proofs.Common.{subst}
use Rattle.published_account.specs.Growing.{Pairs}
use Rattle.publish_pass.specs.Pass.{Agree}
use Rattle.pass_laws.proofs.Fronts.{held_and_told}
use Rattle.pass_laws.proofs.moments.moments_agree_with_told.Goals as goal

pub returns : goal.returns
returns g c = λ before calls.
    held_and_told c.args.one.now before c.args.told.now (subst (λ (mine : Pairs). Agree mine c.args.told.now) c.tell-mine.ensures c.agrees.ensures) calls
