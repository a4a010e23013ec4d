use Rattle.account_rows.proofs.TagFacts.{last_given}
use Rattle.account_rows.proofs.laws.tags_are_the_last_given.Goals as goal

pub returns : goal.returns
returns c = last_given
