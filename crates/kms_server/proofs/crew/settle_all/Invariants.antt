use Rattle.std.proofs.Common.{◌≡◌, ◌<◌, ◌≤◌, ℕ, get_or}
use Rattle.kms_server.specs.Crew.{Settles}
use Rattle.kms_server.specs.States.{state_of}
use Rattle.kms_server.proofs.crew.settle_all.Given as goal

abbrev pub invariant-loop-worker : goal.invariant-loop-worker
invariant-loop-worker g l = record {
  below : (k : ℕ) (d : _) → k < l.worker-index → Settles (state_of g.C.Clock.told g.E.Ear.shows (get_or l.initial.crew k d)) (state_of g.C.Clock.told g.E.Ear.shows (get_or l.crew k d));
  above : (k : ℕ) (d : _) → l.worker-index ≤ k → get_or l.crew k d ≡ get_or l.initial.crew k d;
}
