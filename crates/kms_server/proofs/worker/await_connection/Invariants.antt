use Rattle.std.proofs.Common.{◌≡◌, false}
use Rattle.kms_io.specs.Wire.{RoseBy}
use Rattle.kms_io.specs.Ear.{KeepsGivenBack}
use Rattle.kms_server.proofs.worker.await_connection.Given as goal

abbrev pub invariant-loop-failure : goal.invariant-loop-failure
invariant-loop-failure g l = record {
  is_in : (g.E.Ear.shows l.ear).is_out ≡ false;
  keeps : KeepsGivenBack (g.E.Ear.shows l.initial.ear) (g.E.Ear.shows l.ear);
  rose : RoseBy l._failure (g.E.Ear.shows l.initial.ear).faults (g.E.Ear.shows l.ear).faults;
}
