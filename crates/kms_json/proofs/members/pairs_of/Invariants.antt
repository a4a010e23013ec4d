use Rattle.std.proofs.Common.{◌≡◌, ◌++◌}
use Rattle.std.specs.Option.{option_map}
use Rattle.serde_json.specs.View.{members_view}
use Rattle.kms_json.specs.Fields.{pairs_of}
use Rattle.kms_json.proofs.members.pairs_of.Given as goal

abbrev pub invariant-loop-name : goal.invariant-loop-name
invariant-loop-name l = pairs_of (members_view l.members.entries) ≡ option_map (λ more. l.pairs.items ++ more) (pairs_of (members_view l.name-iterator))
