use Rattle.pass_laws.proofs.EventFacts.{calls_are_events, passes_are_the_machine}
use Rattle.pass_laws.proofs.laws.calls_are_events.Goals as goal

pub returns-clause-events : goal.returns-clause-events
returns-clause-events c = calls_are_events c.times_never_fall.ensures

pub returns-clause-run : goal.returns-clause-run
returns-clause-run c = passes_are_the_machine c.times_never_fall.ensures
