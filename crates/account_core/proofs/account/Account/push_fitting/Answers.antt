use Rattle.std.proofs.Common.{◌≡◌, true, sym, subst}
use Rattle.account_core.specs.Account.{Account}
use Rattle.account_core.specs.Fitting.{Fits, fitted_to}
use Rattle.account_core.proofs.Histories.{held_more, fitting_of}
use Rattle.account_core.proofs.account.Account.push_fitting.Goals as goal

pub apply-requires : goal.apply-requires
apply-requires c =
    let fits = subst (λ (a : Account). Fits a.facts a.entries c.args.entry.now) (sym c.self.view_is) (c.in_ok-fits.ensures.0 c.if-not-branch.false) in
    fitting_of c.self.inside.facts c.self.inside.rows c.args.entry.now fits

pub invariant_of-result : goal.invariant_of-result
invariant_of-result c =
    let fits = subst (λ (a : Account). Fits a.facts a.entries c.args.entry.now) (sym c.self.view_is) (c.in_ok-fits.ensures.0 c.if-not-branch.false) in
    held_more c.self.inside.facts c.in_ok-share.field-0 c.self.inside.rows c.in_ok-apply.field-0 c.args.entry.now c.in_ok-share.ensures c.in_ok-apply.ensures (fitted_to c.args.entry.now c.self.invariant fits)
