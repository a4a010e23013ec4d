use Rattle.std.proofs.Common.{◌≡◌, length, All}
use Rattle.kms_io.specs.Door.{IsNewEar}
use Rattle.kms_io.specs.TcpEar.{counts_of}
use Rattle.kms_io.proofs.tcp_door.ears_of.Given as goal

abbrev pub invariant-loop-made : goal.invariant-loop-made
invariant-loop-made g l = record {
  number : length l.ears.items ≡ l._made;
  each : All (λ ear. IsNewEar (counts_of ear)) l.ears.items;
}
