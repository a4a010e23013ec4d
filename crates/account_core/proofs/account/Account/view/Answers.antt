use Rattle.std.proofs.Common.{◌<◌, ℕ, subst, sym, arith}
use Rattle.kms_names.specs.Moment.{year_10000}
use Rattle.account_core.proofs.Histories.{latest_held}
use Rattle.account_core.proofs.account.Account.view.Goals as goal

pub new-requires-clause-moment : goal.new-requires-clause-moment
new-requires-clause-moment c =
    let latest : c.latest.result < year_10000 = subst (λ (n : ℕ). n < year_10000) (sym c.latest.ensures) (latest_held c.self.inside.facts c.self.inside.rows c.self.invariant) in
    omega (arith, c.requires, latest, c.max.ensures)
