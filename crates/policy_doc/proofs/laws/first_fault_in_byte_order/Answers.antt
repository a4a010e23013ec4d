use Rattle.policy_doc.proofs.OrderFacts.{first_in_byte_order}
use Rattle.policy_doc.proofs.laws.first_fault_in_byte_order.Goals as goal

pub returns : goal.returns
returns c = first_in_byte_order
