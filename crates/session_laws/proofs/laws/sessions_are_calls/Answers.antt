use Rattle.session_laws.proofs.SessionCalls.{turns_are_calls, runs_are_calls, sessions_are_calls, workers_are_calls, servers_are_calls}
use Rattle.session_laws.proofs.laws.sessions_are_calls.Goals as goal

pub returns-clause-turns : goal.returns-clause-turns
returns-clause-turns c = turns_are_calls

pub returns-clause-runs : goal.returns-clause-runs
returns-clause-runs c = runs_are_calls

pub returns-clause-sessions : goal.returns-clause-sessions
returns-clause-sessions c = sessions_are_calls

pub returns-clause-workers : goal.returns-clause-workers
returns-clause-workers c = workers_are_calls

pub returns-clause-servers : goal.returns-clause-servers
returns-clause-servers c = servers_are_calls
