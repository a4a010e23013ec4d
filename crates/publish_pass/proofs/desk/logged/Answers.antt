use Rattle.std.proofs.Common.{sym, subst}
use Rattle.published_account.specs.Pairs.{IsHistory}
use Rattle.published_account.proofs.Lists.{history_push}
use Rattle.publish_pass.proofs.desk.logged.Goals as goal

pub returns-then-push-clause-history : goal.returns-then-push-clause-history
returns-then-push-clause-history g c =
    subst (IsHistory g.R.Realm.facts g.R.Realm.passes g.R.Realm.loaded) (sym c.if-push.ensures)
    (history_push g.R.Realm.facts g.R.Realm.passes g.R.Realm.loaded c.args.prefix (c.args.entry, c.args.number) c.len.ensures.history c.requires.next)
