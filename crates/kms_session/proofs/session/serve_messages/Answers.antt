use Rattle.std.proofs.Common.{false, subst, sym, arith, refl, ◌∙◌}
use Rattle.kms_session.specs.Run.{turns}
use Rattle.kms_session.specs.Session.{Serves}
use Rattle.session_front.proofs.Runs.{serves_nothing}
use Rattle.kms_session.proofs.session.serve_messages.Goals as goal

pub loop-number-init : goal.loop-number-init
loop-number-init g c = record { serves = subst (Serves g.K.Keeps.keeps c.args.trust.now _ _ false 0) (sym c.in-Ok.ensures) (serves_nothing (turns g.K.Keeps.keeps c.args.trust.now) _); few = omega arith; facts = refl }

pub loop-number-preserved : goal.loop-number-preserved
loop-number-preserved g c =
    let goes = c.in-None.ensures.goes _ c.loop-number.invariant.serves in
    record { serves = goes.0; few = goes.1; facts = c.in-None.ensures.facts ∙ c.loop-number.invariant.facts }
