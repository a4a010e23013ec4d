use Rattle.std.proofs.Common.{rules, ◌≡◌, List, subst}
use Rattle.std.specs.Prelude.{Bool}
use Rattle.policy_doc.specs.declared.policies.Policy.{Policy}
use Rattle.access_explain.specs.Findings.{basis_of}
use Rattle.access_explain.specs.Tests.{AreTested}
use Rattle.access_explain.proofs.GroundFacts.{is_ground}
use Rattle.access_explain.proofs.findings.ground_of.Goals as goal

pub returns : goal.returns
returns c =
    let basis = basis_of c.args.account.now.facts c.args.account.now.entries in
    let q = c.args.question.now in
    let runs = c.args.runs.now in
    let t = c.tested-tested.result in
    let may = c.may_retire_asked-may_retire.result in
    let root = c.is_root.result in
    let documents : c.as_slice-ceiling.result.now ≡ basis.ceiling = search rules in
    let tested =
    subst (λ (r : Bool). AreTested runs basis.ceiling r may t) c.is_root.ensures
    (subst (λ (ps : List Policy). AreTested runs ps root may t) documents c.tested-tested.ensures) in
    is_ground basis q runs c.ground.result t may c.args.subject.now c.requires tested c.may_retire_asked-may_retire.ensures c.ground.ensures
