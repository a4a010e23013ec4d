use Rattle.kms_config.proofs.KindFacts.{configured_kind}
use Rattle.kms_config.proofs.laws.configured_policies_are_of_identities.Goals as goal

pub returns : goal.returns
returns c = configured_kind
