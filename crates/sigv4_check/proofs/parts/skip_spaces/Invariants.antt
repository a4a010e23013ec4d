use Rattle.std.proofs.Common.{◌≡◌, length}
use Rattle.sigv4_check.specs.Parts.{skip_spaces}
use Rattle.sigv4_check.proofs.parts.skip_spaces.Given as goal

abbrev pub invariant-loop-others : goal.invariant-loop-others
invariant-loop-others l = skip_spaces l.rest ≡ skip_spaces l.text

abbrev pub decreases-loop-others : goal.decreases-loop-others
decreases-loop-others l = length l.rest
