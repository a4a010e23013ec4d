use Rattle.std.proofs.Common.{subst, ◌∙◌}
use Rattle.published_account.specs.Growing.{Pairs}
use Rattle.publish_pass.specs.Pass.{Agree}
use Rattle.publish_pass.proofs.Agreeing.{agree_by}
use Rattle.publish_pass.proofs.told.Told.agrees.Goals as goal

pub returns : goal.returns
returns g c =
    let agreed : Agree c.again-longer.result c.other.inside.prefix = agree_by _ _ _ c.learn.ensures.longer in
    subst (λ (mine : Pairs). Agree mine c.args.other.now) (c.again-longer.ensures ∙ c.self.view_is)
    (subst (λ (others : Pairs). Agree c.again-longer.result others) c.other.view_is agreed)
