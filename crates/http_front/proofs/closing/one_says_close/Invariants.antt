use Rattle.std.proofs.Common.{◌≡◌, length}
use Rattle.http_front.specs.Judge.{has_close}
use Rattle.http_front.proofs.closing.one_says_close.Given as goal

abbrev pub invariant-loop-n : goal.invariant-loop-n
invariant-loop-n l = has_close l.rest ≡ has_close l.value

abbrev pub decreases-loop-n : goal.decreases-loop-n
decreases-loop-n l = length l.rest
