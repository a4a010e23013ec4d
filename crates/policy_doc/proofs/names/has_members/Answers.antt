use Rattle.policy_doc.proofs.TextFacts.{has_members-view}
use Rattle.policy_doc.proofs.names.has_members.Goals as goal

pub returns : goal.returns
returns c = has_members-view c.is_empty.result c.args.members.now.entries c.is_empty.ensures.0 c.is_empty.ensures.1
