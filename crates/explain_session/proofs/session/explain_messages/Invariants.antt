use Rattle.std.proofs.Common.{◌≡◌, ◌<◌, false}
use Rattle.session_front.specs.Session.{outside}
use Rattle.explain_session.specs.Session.{Explains}
use Rattle.explain_session.proofs.session.explain_messages.Given as goal

abbrev pub invariant-loop-number : goal.invariant-loop-number
invariant-loop-number g l = record {
  explains : Explains l.trust (outside (g.L.Link.shows l.initial.link) (g.C.Clock.told l.initial.clock) l.initial.explainer) (outside (g.L.Link.shows l.link) (g.C.Clock.told l.clock) l.explainer) false l.number l.inbox;
  few : l.number < 100000;
  facts : l.explainer.facts ≡ l.initial.explainer.facts;
}
