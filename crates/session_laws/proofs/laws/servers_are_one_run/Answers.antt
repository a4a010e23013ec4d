use Rattle.session_laws.proofs.Orders.{servers_are_one_run}
use Rattle.session_laws.proofs.laws.servers_are_one_run.Goals as goal

pub returns : goal.returns
returns c = servers_are_one_run c.workers_made_all.ensures c.calls_are_events.ensures.run
