use Rattle.std.proofs.Common.{◌≡◌}
use Rattle.kms_workload.specs.Workload.{workload_of}
use Rattle.kms_workload.proofs.messages.messages.Given as goal

abbrev pub invariant-loop-number : goal.invariant-loop-number
invariant-loop-number l = l.messages.items ≡ workload_of l.seed l.number
