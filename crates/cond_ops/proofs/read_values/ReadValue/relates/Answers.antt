use Rattle.std.proofs.Common.{ℕ, List, subst, FitsSigned, w64, rules}
use Rattle.std.specs.Prelude.{◌↔◌, IsTrue}
use Rattle.std.proofs.lemmas.Int.{to_z-of_z}
use Rattle.cond_ops.specs.Reading.{IsFormOf}
use Rattle.cond_ops.specs.Relation.{RelatesAs}
use Rattle.cond_ops.specs.declared.operators.Kind.{Kind}
use Rattle.cond_ops.proofs.RelatedFacts.{by_number, by_date, by_arn}
use Rattle.cond_ops.proofs.read_values.ReadValue.relates.Goals as goal

pub returns-in-Number : goal.returns-in-Number
returns-in-Number c =
    let compared = c.self.inside.compared in
    let value = c.self.inside.value.now in
    let policy = c.args.policy.now in
    let fits : FitsSigned w64 c.in-Number.left = search rules in
    subst (λ (v : Kind × List ℕ). IsTrue c.number_relates.result ↔ RelatesAs v.0 v.1 policy) c.self.view_is
    (by_number compared value policy c.number_relates.result c.in-Number.order c.in-Number.left (subst (IsFormOf compared value) c.in-Number.is c.self.invariant) (simp to_z-of_z at c.number_relates.ensures))

pub returns-in-Date : goal.returns-in-Date
returns-in-Date c =
    let compared = c.self.inside.compared in
    let value = c.self.inside.value.now in
    let policy = c.args.policy.now in
    let fits : FitsSigned w64 c.in-Date.left = search rules in
    subst (λ (v : Kind × List ℕ). IsTrue c.date_relates.result ↔ RelatesAs v.0 v.1 policy) c.self.view_is
    (by_date compared value policy c.date_relates.result c.in-Date.order c.in-Date.left (subst (IsFormOf compared value) c.in-Date.is c.self.invariant) (simp to_z-of_z at c.date_relates.ensures))

pub returns-in-Arn : goal.returns-in-Arn
returns-in-Arn c =
    let compared = c.self.inside.compared in
    let value = c.self.inside.value.now in
    let policy = c.args.policy.now in
    subst (λ (v : Kind × List ℕ). IsTrue c.arn_relates.result ↔ RelatesAs v.0 v.1 policy) c.self.view_is
    (by_arn compared value policy c.arn_relates.result c.in-Arn.arn (subst (IsFormOf compared value) c.in-Arn.is c.self.invariant) c.arn_relates.ensures)
