use Rattle.std.proofs.Common.{sym, ap, ◌∙◌}
use Rattle.account_core.specs.Account.{Account}
use Rattle.account_steps.specs.History.{housekeeping_of}
use Rattle.publish_pass.proofs.PassLemmas.{house_next}
use Rattle.publish_pass.proofs.desk.Desk.keep_house.Goals as goal

pub prepare-requires : goal.prepare-requires
prepare-requires g c =
    let due = sym (ap (λ (a : Account). housekeeping_of a.entries c.args.moment) c.account.ensures) ∙ sym c.housekeeping.ensures ∙ c.in-Some.is in
    house_next g.R.Realm.facts _ c.args.moment c.in-Some.entry c.requires.moment due

pub publish-requires-clause-next : goal.publish-requires-clause-next
publish-requires-clause-next g c =
    let due = sym (ap (λ (a : Account). housekeeping_of a.entries c.args.moment) c.account.ensures) ∙ sym c.housekeeping.ensures ∙ c.in-Some.is in
    house_next g.R.Realm.facts _ c.args.moment c.in-Some.entry c.requires.moment due
