use Rattle.std.proofs.Common.{sym, subst}
use Rattle.account_core.specs.Account.{Account}
use Rattle.account_core.specs.Decide.{IsNext}
use Rattle.published_account.proofs.published.Published.next_account.Goals as goal

pub apply-requires : goal.apply-requires
apply-requires c = subst (λ (a : Account). IsNext a.facts a.entries c.args.entry.now) (sym c.account.ensures) c.requires
