use Rattle.std.proofs.Common.{◌≡◌, take}
use Rattle.policy_eval.proofs.names.keep_names.Given as goal

abbrev pub invariant-loop-named : goal.invariant-loop-named
invariant-loop-named l = l.kept.items ≡ take l.named-index l.names
