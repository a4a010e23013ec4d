use Rattle.resource_tags.proofs.TagFacts.{dropped_gone}
use Rattle.resource_tags.proofs.laws.dropped_tags_are_gone.Goals as goal

pub returns : goal.returns
returns c = dropped_gone
