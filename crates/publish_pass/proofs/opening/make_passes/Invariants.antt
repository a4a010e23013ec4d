use Rattle.std.proofs.Common.{◌≡◌, ◌+◌}
use Rattle.left_right.specs.Sides.{view}
use Rattle.published_account.specs.Pairs.{entries_of}
use Rattle.publish_pass.specs.Pass.{fresh_passes}
use Rattle.publish_pass.proofs.opening.make_passes.Given as goal

abbrev pub invariant-loop-i : goal.invariant-loop-i
invariant-loop-i g l =
    (l.share.parts + l.i ≡ l.passes) × (l.share.amount ≡ 0) × (l.all.items ≡ fresh_passes g.R.Realm.facts g.R.Realm.passes (entries_of l.prefix) l.i) × (l.writer.desk.shown.value ≡ l.fn.writer.desk.shown.value) × (view l.writer.desk.place ≡ view l.fn.writer.desk.place)
