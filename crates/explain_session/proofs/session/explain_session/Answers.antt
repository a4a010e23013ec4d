use Rattle.std.proofs.Common.{subst}
use Rattle.session_front.specs.Session.{outside}
use Rattle.explain_session.specs.Explaining.{Explainer}
use Rattle.explain_session.specs.Session.{EndsBy}
use Rattle.explain_session.proofs.Ending.{explained}
use Rattle.explain_session.proofs.session.explain_session.Goals as goal

pub returns : goal.returns
returns g c =
    let new = outside (g.L.Link.shows c.explain_messages.new.link) (g.C.Clock.told c.explain_messages.new.clock) c.explain_messages.new.explainer in
    explained c.args.account c.args.trust.now c.explain_messages.result _ _ _ _ c.explain_messages.new.explainer
    (subst (λ (e : Explainer). EndsBy c.args.trust.now c.explain_messages.result (outside (g.L.Link.shows c.args.link.now) (g.C.Clock.told c.args.clock.now) e) new) c.new-explainer.ensures c.explain_messages.ensures)
