use Rattle.explain_session.proofs.Explainers.{proper_at}
use Rattle.explain_session.proofs.session.line_of.Goals as goal

pub explain-requires : goal.explain-requires
explain-requires c = proper_at c.args.explainer.now.facts c.args.now c.in-Ok.ask c.requires.now (c.in-Ok.ensures.proper c.args.explainer.now.facts.account c.requires.trust)
