use Rattle.access_explain.proofs.FindingFacts.{is_finding}
use Rattle.access_explain.specs.Findings.{basis_of}
use Rattle.access_explain.proofs.findings.find.Goals as goal

pub returns : goal.returns
returns c =
    let basis = basis_of c.args.account.now.facts c.args.account.now.entries in
    is_finding basis c.args.question.now c.subject_of-subject.result c.subject_of-subject.ensures c.in_ok-runs.runs c.ground_of-ground.result c.in_ok-runs.ensures c.ground_of-ground.ensures
    c.finding.result c.finding.ensures
