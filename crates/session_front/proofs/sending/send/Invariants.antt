use Rattle.std.proofs.Common.{length, take, ◌-◌, ◌≤◌}
use Rattle.session_front.specs.Sending.{SendsWhole}
use Rattle.session_front.proofs.sending.send.Given as goal

abbrev pub invariant-loop-at : goal.invariant-loop-at
invariant-loop-at g l = record { within : l.at ≤ length l.text; sent : SendsWhole (g.L.Link.shows l.initial.link) (g.L.Link.shows l.link) (take l.at l.text) }

abbrev pub decreases-loop-at : goal.decreases-loop-at
decreases-loop-at g l = length l.text - l.at
