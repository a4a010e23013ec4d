use Rattle.std.proofs.Common.{sym, ◌∙◌}
use Rattle.publish_pass.proofs.PassLemmas.{next_entry}
use Rattle.worked_cases.proofs.places.Asked.change.Goals as goal

pub apply-requires : goal.apply-requires
apply-requires c =
    let asked = c.args.self.now in
    next_entry asked.account.facts asked.account.entries c.args.ask.now c.in-Change.entry c.in-Change.reply (sym c.in-Change.is ∙ c.in_ok-entry.ensures) c.requires.proper
