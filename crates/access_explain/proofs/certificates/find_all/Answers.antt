use Rattle.std.proofs.Common.{rules, ◌≡◌, ◌++◌, ◌∷◌, [], true, false, List, sym, subst}
use Rattle.access_explain.specs.declared.findings.Finding.{Finding}
use Rattle.access_explain.specs.Certificates.{AreFindings}
use Rattle.access_explain.specs.Findings.{basis_of}
use Rattle.access_explain.specs.Grounds.{allows}
use Rattle.access_explain.proofs.CertificateFacts.{found_more, found_all, found_denied}
use Rattle.access_explain.proofs.certificates.find_all.Goals as goal

pub returns-then-not-allows : goal.returns-then-not-allows
returns-then-not-allows c =
    let basis = basis_of c.args.account.now.facts c.args.account.now.entries in
    let f = c.in_ok-finding.finding in
    let pushed : c.push.new.self.items ≡ c.loop-question.findings.items ++ f ∷ [] = search rules in
    let denies : allows f.ground ≡ false = search rules in
    subst (λ (fs : List Finding). AreFindings basis c.args.questions.now fs) (sym c.new.ensures)
    (found_denied basis c.args.questions.now c.loop-question.question-index c.loop-question.findings.items c.push.new.self.items c.question-item.result f c.loop-question-test.true c.question-item.is pushed
    c.in_ok-finding.ensures denies c.loop-question.invariant)

pub loop-question-preserved : goal.loop-question-preserved
loop-question-preserved c =
    let basis = basis_of c.args.account.now.facts c.args.account.now.entries in
    let f = c.in_ok-finding.finding in
    let pushed : c.push.new.self.items ≡ c.loop-question.findings.items ++ f ∷ [] = search rules in
    let goes_on : allows f.ground ≡ true = search rules in
    found_more basis c.args.questions.now c.loop-question.question-index c.loop-question.findings.items c.push.new.self.items c.question-item.result f c.loop-question-test.true c.question-item.is pushed
    c.in_ok-finding.ensures goes_on c.loop-question.invariant

pub returns : goal.returns
returns c =
    let basis = basis_of c.args.account.now.facts c.args.account.now.entries in
    subst (λ (fs : List Finding). AreFindings basis c.args.questions.now fs) (sym c.new-2.ensures)
    (found_all basis c.args.questions.now c.loop-question.question-index c.loop-question.findings.items c.loop-question-test.false c.loop-question.invariant)
