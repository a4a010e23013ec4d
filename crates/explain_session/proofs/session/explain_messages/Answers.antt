use Rattle.std.proofs.Common.{false, subst, sym, arith, refl, ◌∙◌}
use Rattle.session_front.proofs.Runs.{serves_nothing}
use Rattle.explain_session.specs.Explaining.{tells}
use Rattle.explain_session.specs.Session.{Explains}
use Rattle.explain_session.proofs.session.explain_messages.Goals as goal

pub loop-number-init : goal.loop-number-init
loop-number-init g c = record { explains = subst (Explains c.args.trust.now _ _ false 0) (sym c.in-Ok.ensures) (serves_nothing (tells c.args.trust.now) _); few = omega arith; facts = refl }

pub loop-number-preserved : goal.loop-number-preserved
loop-number-preserved g c =
    let goes = c.in-None.ensures.goes _ c.loop-number.invariant.explains in
    record { explains = goes.0; few = goes.1; facts = c.in-None.ensures.facts ∙ c.loop-number.invariant.facts }
