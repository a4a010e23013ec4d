use Rattle.std.proofs.Common.{refl}
use Rattle.publish_pass.proofs.Lookups.{learns_at}
use Rattle.publish_pass.proofs.pass.Pass.learn_prefix.Goals as goal

pub returns-clause-learns : goal.returns-clause-learns
returns-clause-learns g c =
    let i = c.self.inside in
    learns_at g.R.Realm.facts i.number i.own.items i.entrance i.prefix c.learn.new.self i.draws g.R.Realm.passes g.R.Realm.loaded i.entrance c.args.self.now c.learn.ensures.longer.first
    c.self.invariant.history c.learn.ensures.history refl c.self.view_is
