use Rattle.std.proofs.Common.{◌≡◌, ◌<◌, false}
use Rattle.session_front.specs.Session.{outside}
use Rattle.kms_session.specs.Session.{Serves}
use Rattle.kms_session.proofs.session.serve_messages.Given as goal

abbrev pub invariant-loop-number : goal.invariant-loop-number
invariant-loop-number g l = record {
  serves : Serves g.K.Keeps.keeps l.trust (outside (g.L.Link.shows l.initial.link) (g.C.Clock.told l.initial.clock) l.initial.pass) (outside (g.L.Link.shows l.link) (g.C.Clock.told l.clock) l.pass) false l.number l.inbox;
  few : l.number < 100000;
  facts : l.pass.facts ≡ l.initial.pass.facts;
}
