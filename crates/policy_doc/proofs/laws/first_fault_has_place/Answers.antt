use Rattle.policy_doc.proofs.PlaceFacts.{at_place}
use Rattle.policy_doc.proofs.laws.first_fault_has_place.Goals as goal

pub returns : goal.returns
returns c = at_place
