use Rattle.std.proofs.Common.{◌≡◌, take}
use Rattle.account_rows.proofs.replay.one_more.Given as goal

abbrev pub invariant-loop-old : goal.invariant-loop-old
invariant-loop-old l = l.all.items ≡ take l.old-index l.versions
