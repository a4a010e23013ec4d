use Rattle.kms_names.proofs.ActionFacts.{with_bit, has_added, has_others}
use Rattle.kms_names.proofs.action_sets.ActionSet.insert.Goals as goal

pub returns-clause-sum : goal.returns-clause-sum
returns-clause-sum c = rw c.number.ensures (with_bit c.self.inside.bits c.args.self.now c.self.view_is c.args.action)

pub returns-clause-added : goal.returns-clause-added
returns-clause-added c = rw c.number.ensures (rw (with_bit c.self.inside.bits c.args.self.now c.self.view_is c.args.action) (has_added c.args.self.now c.args.action))

pub returns-clause-others : goal.returns-clause-others
returns-clause-others c = rw c.number.ensures (rw (with_bit c.self.inside.bits c.args.self.now c.self.view_is c.args.action) (has_others c.args.self.now c.args.action))
