use Rattle.std.proofs.Common.{subst, sym}
use Rattle.published_account.specs.Rules.{GoesOn}
use Rattle.published_account.proofs.Turns.{turns}
use Rattle.published_account.proofs.showing.fn.publish_once.replace_with.Goals as goal

pub publish_as-writer-requires : goal.publish_as-writer-requires
publish_as-writer-requires g c next is = let now = c.args.writer.desk.shown.value in turns _ _ now next (subst (GoesOn now) (sym is) c.requires)
