use Rattle.access_explain.proofs.CertificateFacts.{is_certificate}
use Rattle.access_explain.proofs.certificates.explain.Goals as goal

pub returns : goal.returns
returns c = is_certificate c.args.account.now.facts c.args.account.now.entries c.args.ask.now c.in_ok-asked.asked c.in_ok-asked.ensures c.certificate_by.result c.certificate_by.ensures
