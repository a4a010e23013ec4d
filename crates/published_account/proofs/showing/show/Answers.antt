use Rattle.std.proofs.Common.{subst, sym, fold, drop}
use Rattle.published_account.specs.Rules.{GoesOn}
use Rattle.published_account.specs.Pairs.{Shown}
use Rattle.published_account.proofs.showing.show.Goals as goal

pub publish_once-requires : goal.publish_once-requires
publish_once-requires g c =
    let now = c.loop.writer.desk.shown.value in
    let later = fold (λ (s o : Shown). o) now (drop c.loop.writer.behind c.loop.writer.log.items) in
    let a : GoesOn c.args.writer.now.desk.shown.value later = subst (GoesOn c.args.writer.now.desk.shown.value) (sym c.loop.invariant.2) c.requires in
    subst (λ (x : Shown). GoesOn x later) (sym c.loop.invariant.3) a
