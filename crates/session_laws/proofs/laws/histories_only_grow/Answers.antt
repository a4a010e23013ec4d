use Rattle.session_laws.proofs.GrowingRuns.{turns_go_on, runs_go_on}
use Rattle.session_laws.proofs.laws.histories_only_grow.Goals as goal

pub returns-clause-turns : goal.returns-clause-turns
returns-clause-turns c = turns_go_on

pub returns-clause-runs : goal.returns-clause-runs
returns-clause-runs c = runs_go_on
