use Rattle.std.proofs.Common.{◌≡◌, ◌+◌, drop}
use Rattle.std.specs.List.{position_or_len}
use Rattle.sigv4_check.specs.Credentials.{stands_behind}
use Rattle.sigv4_check.proofs.credentials.place_of.Given as goal

abbrev pub invariant-loop-place : goal.invariant-loop-place
invariant-loop-place l = l.place + position_or_len (stands_behind l.id) (drop l.place l.creds) ≡ position_or_len (stands_behind l.id) l.creds
