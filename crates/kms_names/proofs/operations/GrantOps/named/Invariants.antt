use Rattle.std.proofs.Common.{◌≡◌, fold, take, if◌then◌else◌}
use Rattle.kms_names.specs.GrantOps.{is_named, with_op}
use Rattle.kms_names.proofs.operations.GrantOps.named.Given as goal

-- the set of those of the operations so far that are named
abbrev pub invariant-loop-op : goal.invariant-loop-op
invariant-loop-op l = l.ops ≡ fold (λ ops op. if is_named l.names op then with_op op ops else ops) 0 (take l.op-index l.op-items)
