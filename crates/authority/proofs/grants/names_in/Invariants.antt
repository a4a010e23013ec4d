use Rattle.std.proofs.Common.{◌≡◌, ◌++◌, drop, filter, map}
use Rattle.kms_names.specs.GrantOps.{contains, grant_op_name}
use Rattle.authority.proofs.grants.names_in.Given as goal

abbrev pub invariant-loop-op : goal.invariant-loop-op
invariant-loop-op l =
    l.names.items ++ map grant_op_name (filter (contains l.operations) (drop l.op-index l.all)) ≡ map grant_op_name (filter (contains l.operations) l.all)
