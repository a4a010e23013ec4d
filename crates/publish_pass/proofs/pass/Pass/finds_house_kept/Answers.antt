use Rattle.publish_pass.proofs.Lookups.{learns_at}
use Rattle.publish_pass.proofs.pass.Pass.finds_house_kept.Goals as goal

pub returns-in-Some-clause-learns : goal.returns-in-Some-clause-learns
returns-in-Some-clause-learns g c = λ _.
    let i = c.self.inside in
    learns_at g.R.Realm.facts i.number i.own.items i.entrance i.prefix c.in-Some.prefix i.draws g.R.Realm.passes g.R.Realm.loaded c.kept_house.new.self c.args.self.now
    c.in-Some.ensures.begins.0 c.self.invariant.history c.in-Some.ensures.begins.1 c.kept_house.ensures.same c.self.view_is
