use Rattle.account_rows.proofs.TagFacts.{last_given}
use Rattle.account_laws.proofs.Histories.{held_laws}
use Rattle.account_laws.proofs.laws.tags_of_keys_are_the_last_given.Goals as goal

pub returns : goal.returns
returns c = λ facts history id row tag held is. last_given history id row tag (held_laws facts history held).made is
