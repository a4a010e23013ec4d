use Rattle.policy_doc.proofs.GrammarFacts.{policy_tells}
use Rattle.policy_doc.proofs.laws.policy_of_reads.Goals as goal

pub returns : goal.returns
returns c = policy_tells
