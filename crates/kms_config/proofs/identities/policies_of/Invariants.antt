use Rattle.std.proofs.Common.{◌≡◌, [], drop}
use Rattle.serde_json.specs.View.{items_view}
use Rattle.policy_doc.specs.Paths.{path_text}
use Rattle.kms_config.specs.Lists.{items_from}
use Rattle.kms_config.specs.Identities.{next_document}
use Rattle.kms_config.proofs.identities.policies_of.Given as goal

abbrev pub invariant-loop-index : goal.invariant-loop-index
invariant-loop-index l =
    items_from (next_document (path_text l.place)) l.policies.items l.index (items_view (drop l.index l.values))
    ≡ items_from (next_document (path_text l.place)) [] 0 (items_view l.values)
