use Rattle.access_explain.specs.Findings.{basis_of}
use Rattle.access_explain.proofs.CertificateFacts.{Found}
use Rattle.access_explain.proofs.certificates.find_all.Given as goal

abbrev pub invariant-loop-question : goal.invariant-loop-question
invariant-loop-question l = Found (basis_of l.account.facts l.account.entries) l.questions l.question-index l.findings.items
