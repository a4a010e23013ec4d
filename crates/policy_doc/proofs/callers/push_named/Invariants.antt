use Rattle.std.proofs.Common.{◌≡◌, ◌++◌, drop}
use Rattle.std.specs.List.{filter_map}
use Rattle.policy_doc.specs.Callers.{named_of}
use Rattle.policy_doc.proofs.callers.push_named.Given as goal

abbrev pub invariant-loop-text : goal.invariant-loop-text
invariant-loop-text l = l.names.items ++ filter_map named_of (drop l.text-index l.text-items) ≡ l.initial.names.items ++ filter_map named_of l.text-items
