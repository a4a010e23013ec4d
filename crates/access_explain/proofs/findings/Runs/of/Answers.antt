use Rattle.std.proofs.Common.{subst, sym}
use Rattle.access_explain.specs.Findings.{basis_of}
use Rattle.access_explain.specs.Tests.{AreRuns}
use Rattle.access_explain.proofs.findings.Runs.of.Goals as goal

pub returns-in-Retiring : goal.returns-in-Retiring
returns-in-Retiring c =
    let basis = basis_of c.args.account.now.facts c.args.account.now.entries in
    subst (λ subject. AreRuns basis c.args.question.now subject c.empty.result) (sym c.in-Retiring.is)
    (c.empty.ensures basis c.args.question.now _ _)
