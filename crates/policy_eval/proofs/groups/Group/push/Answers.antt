use Rattle.std.proofs.Common.{true, false}
use Rattle.policy_eval.proofs.GroupFacts.{covers_still, covers_more}
use Rattle.policy_eval.proofs.groups.Group.push.Goals as goal

pub invariant_of-self : goal.invariant_of-self
invariant_of-self c =
    let kept = c.self.inside in
    let denied = c.with_actions-self-inside in
    let allowed = c.with_actions-self-inside-2 in
    rw c.in_err-push.ensures.items (
      covers_still false kept.denied denied.result denied.ensures.before kept.statements.items c.self.invariant.0,
      covers_still true kept.allowed allowed.result allowed.ensures.before kept.statements.items c.self.invariant.1,
    )

pub invariant_of-self-2 : goal.invariant_of-self-2
invariant_of-self-2 c =
    let kept = c.self.inside in
    let denied = c.with_actions-self-inside in
    let allowed = c.with_actions-self-inside-2 in
    rw c.in_ok-push.ensures.items (
      covers_more false kept.denied denied.result denied.ensures.before kept.statements.items c.args.statement denied.ensures.new c.self.invariant.0,
      covers_more true kept.allowed allowed.result allowed.ensures.before kept.statements.items c.args.statement allowed.ensures.new c.self.invariant.1,
    )
