use Rattle.std.proofs.Common.{◌≡◌, take}
use Rattle.account_rows.specs.Keys.{gone_among}
use Rattle.account_rows.proofs.keys.HeldKeys.gone.Given as goal

abbrev pub invariant-loop-place : goal.invariant-loop-place
invariant-loop-place l = l.gone.items ≡ gone_among l.time l.self (take l.place-index l.place-items)
