use Rattle.std.proofs.Common.{◌≡◌, true, false, sym, ◌∙◌}
use Rattle.std.specs.Cmp.{booleans_Decides}
use Rattle.policy_eval.proofs.GroupFacts.{has_new, not_about}
use Rattle.policy_eval.proofs.groups.with_actions.Goals as goal

pub returns-then-is_allow-allow-clause-new : goal.returns-then-is_allow-allow-clause-new
returns-then-is_allow-allow-clause-new c =
    has_new c.args.set c.matched.result c.union.result c.union.ensures c.args.allow c.args.statement.now c.matched.ensures

pub returns-else-is_allow-allow-clause-new : goal.returns-else-is_allow-allow-clause-new
returns-else-is_allow-allow-clause-new c = λ action about.
    absurd
    (not_about c.args.allow c.is_allow.result c.args.statement.now (sym c.is_allow.ensures)
    (λ same. let bad : false ≡ true = sym c.if-is_allow-allow.false ∙ (booleans_Decides c.is_allow.result c.args.allow).1 same in cc) action about)
