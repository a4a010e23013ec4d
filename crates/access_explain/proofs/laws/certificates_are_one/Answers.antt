use Rattle.access_explain.proofs.CertificateFacts.{one_certificate}
use Rattle.access_explain.proofs.laws.certificates_are_one.Goals as goal

pub returns : goal.returns
returns c = one_certificate
