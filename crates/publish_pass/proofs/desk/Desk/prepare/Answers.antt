use Rattle.std.proofs.Common.{sym, subst}
use Rattle.account_core.specs.Decide.{IsNext}
use Rattle.published_account.specs.Pairs.{Shown, entries_of}
use Rattle.publish_pass.proofs.desk.Desk.prepare.Goals as goal

pub next_account-requires : goal.next_account-requires
next_account-requires g c = subst (λ (x : Shown). IsNext x.whole.facts (entries_of x.whole.pairs) c.args.entry.now) (sym c.published.ensures) c.requires
