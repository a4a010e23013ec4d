use Rattle.policy_eval.proofs.GroupFacts.{none_allows_caller, none_allows_account}
use Rattle.policy_eval.proofs.groups.Group.allowed.Goals as goal

pub returns-else-has : goal.returns-else-has
returns-else-has c =
    let none = c.has.ensures c.if-has.false in
    (none_allows_caller c.args.self.now c.args.facts.now none, none_allows_account c.args.self.now c.args.facts.now none)
