use Rattle.std.proofs.Common.{ℕ, List, [], ap, ◌∙◌, unwrap_or}
use Rattle.std.specs.Arc.{arc_value}
use Rattle.authority.specs.Callers.{policies_at}
use Rattle.authority.specs.Setting.{callers_policies}
use Rattle.account_steps.specs.declared.facts.RealmFacts.{RealmFacts}
use Rattle.account_core.specs.declared.held_facts.Kept.{Kept}
use Rattle.account_core.proofs.OwnPolicies.{found_at_arn, not_root}
use Rattle.account_core.proofs.held_facts.HeldFacts.policies_of.Goals as goal

pub returns-in_ok-arn-in-User : goal.returns-in_ok-arn-in-User
returns-in_ok-arn-in-User c =
    let caller = c.args.caller.now in
    c.policies_at.ensures
    ∙ ap (λ (kept : Kept). unwrap_or (policies_at kept.callers c.as_str.result.now) []) c.deref.ensures
    ∙ ap (λ (arn : List ℕ). unwrap_or (policies_at (arc_value c.self.inside.kept).callers arn) []) (c.as_str.ensures.value ∙ c.in_ok-arn-in-User.ensures)
    ∙ found_at_arn _ _ c.self.invariant.callers caller (not_root caller c.in-User.is)
    ∙ ap (λ (facts : RealmFacts). callers_policies facts.identities caller) c.self.view_is
