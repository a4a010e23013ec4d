use Rattle.policy_doc.proofs.PartsJudged.{first_fault_is}
use Rattle.policy_doc.proofs.laws.first_fault_is_at_the_first_place.Goals as goal

pub returns : goal.returns
returns c = first_fault_is
