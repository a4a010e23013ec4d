use Rattle.std.proofs.Common.{◌≡◌, ◌+◌, drop}
use Rattle.journal_lines.specs.Cuts.{place_of}
use Rattle.journal_lines.proofs.cuts.place_of.Given as goal

abbrev pub invariant-loop-place : goal.invariant-loop-place
invariant-loop-place l = place_of l.stop l.text ≡ l.place + place_of l.stop (drop l.place l.text)
