use Rattle.std.proofs.Common.{subst}
use Rattle.published_account.specs.Growing.{Pairs, IsLongerOf}
use Rattle.published_account.proofs.Adding.{longer_whole}
use Rattle.published_account.proofs.prefix.Prefix.joined.Goals as goal

pub returns-clause-same : goal.returns-clause-same
returns-clause-same g c =
    longer_whole c.args.self.now c.args.other.now c.learn.new.self c.requires (subst (λ (l : Pairs). IsLongerOf l c.args.other.now c.learn.new.self) c.again-both.ensures c.learn.ensures.longer)
