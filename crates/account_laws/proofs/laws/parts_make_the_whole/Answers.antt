use Rattle.account_lists.proofs.PageFacts.{whole_of}
use Rattle.account_laws.proofs.Joining.{lists_are_whole}
use Rattle.account_laws.proofs.TagOrder.{tags_are_whole}
use Rattle.account_laws.proofs.laws.parts_make_the_whole.Goals as goal

pub returns-clause-in_order : goal.returns-clause-in_order
returns-clause-in_order c = λ view. record {
  keys = whole_of _ _;
  aliases = λ key. whole_of _ _;
  retirable = λ retiring. whole_of _ _;
  grants = λ key sought. whole_of _ _;
  rotations = λ row. whole_of _ _;
}

pub returns-clause-lists : goal.returns-clause-lists
returns-clause-lists c = lists_are_whole

pub returns-clause-tags : goal.returns-clause-tags
returns-clause-tags c = tags_are_whole
