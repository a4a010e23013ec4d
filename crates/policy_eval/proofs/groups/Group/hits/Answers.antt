use Rattle.std.proofs.Common.{◌≡◌, true, false, sym, ◌∙◌}
use Rattle.policy_eval.proofs.GroupFacts.{none_hits}
use Rattle.policy_eval.proofs.groups.Group.hits.Goals as goal

pub returns-else-has : goal.returns-else-has
returns-else-has c = (
  λ t. let bad : false ≡ true = sym c.if-has.false ∙ t in cc,
  λ some. absurd (none_hits c.args.allow c.args.self.now c.args.naming c.args.facts.now (c.has.ensures c.if-has.false) some),
)
