use Rattle.account_laws.proofs.LawFacts.{decrypted_again}
use Rattle.account_laws.proofs.laws.sealed_is_decrypted_again.Goals as goal

pub returns : goal.returns
returns c = decrypted_again
