use Rattle.std.proofs.Common.{sym, ◌∙◌}
use Rattle.explain_session.proofs.Explainers.{house_next}
use Rattle.explain_session.proofs.explainer.Explainer.keep_house.Goals as goal

pub apply-requires : goal.apply-requires
apply-requires c = house_next c.self.inside.account.facts c.self.inside.account.entries c.args.moment c.in-Some.entry c.requires (sym c.housekeeping.ensures ∙ c.in-Some.is)
