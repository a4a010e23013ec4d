use Rattle.account_laws.proofs.LawFacts.{earlier_decrypted}
use Rattle.account_laws.proofs.laws.earlier_blobs_are_decrypted.Goals as goal

pub returns : goal.returns
returns c = earlier_decrypted
