use Rattle.std.proofs.Common.{ap, ◌∙◌}
use Rattle.publish_pass.specs.Pass.{Pass}
use Rattle.publish_pass.proofs.Lookups.{learns_at, gives_there, lacks_account}
use Rattle.publish_pass.proofs.pass.Pass.account.Goals as goal

pub returns-clause-account : goal.returns-clause-account
returns-clause-account g c =
    let i = c.self.inside in
    let standing = c.in-Some.standing in
    let learns = learns_at g.R.Realm.facts i.number i.own.items i.entrance i.prefix standing.prefix i.draws g.R.Realm.passes g.R.Realm.loaded c.stand.new.self c.args.self.now
    c.in-Some.ensures.begins.0 c.self.invariant.history c.in-Some.ensures.begins.1 c.in-Some.ensures.entered c.self.view_is in
    gives_there c.args.self.now _ standing.published.whole g.R.Realm.facts c.in_ok-account.account learns (c.in_ok-account.ensures ∙ c.account.ensures) c.in-Some.ensures.names.1
    (ap (λ (p : Pass). p.facts) c.self.view_is) c.in-Some.ensures.pairs

pub returns-in_err-account-clause-lacks : goal.returns-in_err-account-clause-lacks
returns-in_err-account-clause-lacks g c =
    let i = c.self.inside in
    let standing = c.in-Some.standing in
    let learns = learns_at g.R.Realm.facts i.number i.own.items i.entrance i.prefix standing.prefix i.draws g.R.Realm.passes g.R.Realm.loaded c.stand.new.self c.args.self.now
    c.in-Some.ensures.begins.0 c.self.invariant.history c.in-Some.ensures.begins.1 c.in-Some.ensures.entered c.self.view_is in
    lacks_account c.from_residual.result _ _ c.from_residual.ensures.1 learns
