use Rattle.std.proofs.Common.{◌≡◌, ◌≤◌, ◌-◌, false}
use Rattle.kms_server.specs.Work.{WorkerRun}
use Rattle.kms_server.specs.States.{state_of}
use Rattle.kms_server.proofs.worker.work.Given as goal

abbrev pub invariant-loop-worker : goal.invariant-loop-worker
invariant-loop-worker g l = record {
  run : WorkerRun g.K.Keeps.keeps l.host.trust.now (state_of g.C.Clock.told g.E.Ear.shows l.initial.worker) (state_of g.C.Clock.told g.E.Ear.shows l.worker);
  few : l.worker.taken ≤ l.connections;
  is_in : (g.E.Ear.shows l.worker.ear).is_out ≡ false;
}

abbrev pub decreases-loop-worker : goal.decreases-loop-worker
decreases-loop-worker g l = l.connections - l.worker.taken
