use Rattle.std.proofs.Common.{◌≡◌, ◌++◌, drop, filter, map}
use Rattle.kms_names.specs.GrantOps.{contains, grant_op_name}
use Rattle.serde_json.specs.Data.{string}
use Rattle.kms_json.proofs.TextLemmas.{closing_items}
use Rattle.kms_json.proofs.writing.grants.names_in.Given as goal

abbrev pub invariant-loop-op : goal.invariant-loop-op
invariant-loop-op l =
    l.text ++ closing_items (map (λ op. string (grant_op_name op)) (filter (contains l.operations) (drop l.op-index l.all)))
    ≡ l.initial.text ++ closing_items (map (λ op. string (grant_op_name op)) (filter (contains l.operations) l.all))
