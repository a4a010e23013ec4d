use Rattle.std.proofs.Common.{◌≡◌, take}
use Rattle.account_rows.specs.Keys.{kept_at}
use Rattle.account_rows.proofs.keys.HeldKeys.house_kept.Given as goal

abbrev pub invariant-loop-place : goal.invariant-loop-place
invariant-loop-place l = l.keys ≡ kept_at l.time (take l.place-index l.place-items) l.self
