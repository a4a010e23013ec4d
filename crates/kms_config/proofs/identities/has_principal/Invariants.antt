use Rattle.std.proofs.Common.{◌≡◌, drop}
use Rattle.kms_config.specs.Identities.{has_principal}
use Rattle.kms_config.proofs.identities.has_principal.Given as goal

abbrev pub invariant-loop-identity : goal.invariant-loop-identity
invariant-loop-identity l = has_principal (drop l.identity-index l.identities) l.principal ≡ has_principal l.identities l.principal
