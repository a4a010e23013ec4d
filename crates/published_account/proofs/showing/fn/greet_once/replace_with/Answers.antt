use Rattle.std.proofs.Common.{subst, sym, ◌∙◌, ◌≡◌}
use Rattle.published_account.specs.Pairs.{Shown}
use Rattle.published_account.specs.Rules.{GoesOn}
use Rattle.published_account.proofs.Turns.{turns, goes_self}
use Rattle.published_account.proofs.showing.fn.greet_once.replace_with.Goals as goal

pub publish_as-writer-requires : goal.publish_as-writer-requires
publish_as-writer-requires g c next is =
    let now : Shown = c.args.writer.desk.shown.value in
    let same : next ≡ now = is ∙ c.requires in
    turns _ _ now next (subst (GoesOn now) (sym same) (goes_self now))
