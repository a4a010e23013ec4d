use Rattle.std.proofs.Common.{◌≡◌, length}
use Rattle.std.specs.Str.{IsUtf8}
use Rattle.authority.specs.Facts.{behind_slash}
use Rattle.authority.proofs.facts.behind_slash.Given as goal

abbrev pub invariant-loop-behind : goal.invariant-loop-behind
invariant-loop-behind l = record { same : behind_slash l.rest ≡ behind_slash l.fn.name; utf8 : IsUtf8 l.rest }

abbrev pub decreases-loop-behind : goal.decreases-loop-behind
decreases-loop-behind l = length l.rest
