use Rattle.std.proofs.Common.{ap, ◌∙◌}
use Rattle.std.specs.Prelude.{not}
use Rattle.policy_doc.proofs.TextFacts.{has_items-view}
use Rattle.policy_doc.proofs.names.has_items.Goals as goal

pub returns : goal.returns
returns c = ap not c.is_empty.ensures ∙ has_items-view c.args.items.now
