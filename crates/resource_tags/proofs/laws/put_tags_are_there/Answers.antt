use Rattle.resource_tags.proofs.TagFacts.{put_there}
use Rattle.resource_tags.proofs.laws.put_tags_are_there.Goals as goal

pub returns : goal.returns
returns c = put_there
