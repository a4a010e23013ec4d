use Rattle.std.proofs.Common.{length, ◌-◌, ◌<◌}
use Rattle.http_front.specs.Message.{Awaits}
use Rattle.session_front.specs.Inbox.{Receives}
use Rattle.session_front.proofs.waiting.await_message.Given as goal

abbrev pub invariant-loop-cut : goal.invariant-loop-cut
invariant-loop-cut g l = record {
  receives : Receives (g.L.Link.shows l.initial.link) l.initial.inbox (g.L.Link.shows l.link) l.inbox;
  awaits : length l.inbox < l.whole → Awaits l.inbox l.whole;
}

abbrev pub decreases-loop-cut : goal.decreases-loop-cut
decreases-loop-cut g l = 147456 - length l.inbox
