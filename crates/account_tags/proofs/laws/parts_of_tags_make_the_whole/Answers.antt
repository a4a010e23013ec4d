use Rattle.account_tags.proofs.PageFacts.{parts_whole, read_back}
use Rattle.account_tags.proofs.laws.parts_of_tags_make_the_whole.Goals as goal

pub returns-clause-whole : goal.returns-clause-whole
returns-clause-whole c = parts_whole

pub returns-clause-read_back : goal.returns-clause-read_back
returns-clause-read_back c = read_back
