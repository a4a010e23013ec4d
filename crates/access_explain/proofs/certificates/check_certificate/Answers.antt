use Rattle.access_explain.proofs.CertificateFacts.{is_the_one}
use Rattle.access_explain.proofs.certificates.check_certificate.Goals as goal

pub returns : goal.returns
returns c =
    is_the_one c.args.account.now.facts c.args.account.now.entries c.args.ask.now c.args.certificate.now c.in_ok-found.found c.same_certificate.result c.in_ok-found.ensures c.same_certificate.ensures
