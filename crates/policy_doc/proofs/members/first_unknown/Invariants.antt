use Rattle.std.proofs.Common.{◌≡◌, map}
use Rattle.serde_json.specs.View.{members_view}
use Rattle.policy_doc.specs.Names.{first_unknown}
use Rattle.policy_doc.proofs.members.first_unknown.Given as goal

abbrev pub invariant-loop-name : goal.invariant-loop-name
invariant-loop-name l = first_unknown (map (λ known. known.now) l.names) (members_view l.name-iterator) ≡ first_unknown (map (λ known. known.now) l.names) (members_view l.members.entries)
