use Rattle.std.proofs.Common.{sym, subst}
use Rattle.account_core.specs.Account.{Account}
use Rattle.account_core.specs.Decide.{IsNext}
use Rattle.account_core.specs.Fitting.{appended_to}
use Rattle.account_core.proofs.Histories.{held_more, latest_held}
use Rattle.account_core.proofs.Fitting.{comes_next}
use Rattle.account_core.proofs.account.Account.apply.Goals as goal

pub apply-requires : goal.apply-requires
apply-requires c =
    let next = subst (λ (a : Account). IsNext a.facts a.entries c.args.entry.now) (sym c.self.view_is) c.requires in
    (comes_next c.self.inside.facts c.self.inside.rows c.args.entry.now (latest_held c.self.inside.facts c.self.inside.rows c.self.invariant) next).fits

pub invariant_of-result : goal.invariant_of-result
invariant_of-result c =
    let next = subst (λ (a : Account). IsNext a.facts a.entries c.args.entry.now) (sym c.self.view_is) c.requires in
    held_more c.self.inside.facts c.in_ok-share.field-0 c.self.inside.rows c.in_ok-apply.field-0 c.args.entry.now c.in_ok-share.ensures c.in_ok-apply.ensures (appended_to c.args.entry.now c.self.invariant next)
