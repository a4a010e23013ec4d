use Rattle.kms_names.proofs.PrincipalFacts.{one_principal}
use Rattle.kms_names.proofs.laws.principal_texts_differ.Goals as goal

pub returns : goal.returns
returns c = one_principal
