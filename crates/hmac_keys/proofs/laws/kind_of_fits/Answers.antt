use Rattle.hmac_keys.proofs.KindFacts.{law}
use Rattle.hmac_keys.proofs.laws.kind_of_fits.Goals as goal

pub returns : goal.returns
returns c = law
