use Rattle.std.proofs.Common.{◌<◌, ℕ, get_or}
use mathlib.Core.List.{IsPrefix}
use Rattle.publish_pass.specs.Pass.{Learns}
use Rattle.kms_server.proofs.crew.learn_from.Given as goal

abbrev pub invariant-loop-worker : goal.invariant-loop-worker
invariant-loop-worker g l = record {
  learns : Learns l.initial.pass l.pass;
  begins : (k : ℕ) (d : _) → k < l.worker-index → IsPrefix (get_or l.crew k d).pass.history l.pass.history;
}
