-- The actions that the statements of each effect are about.
use Rattle.std.specs.Prelude.{◌≡◌, Bool, true, List, Any}
use Rattle.kms_names.specs.declared.actions.Action.{Action}
use Rattle.kms_names.specs.declared.action_sets.ActionSet.{ActionSet}
use Rattle.kms_names.specs.ActionSet.{has_action}
use Rattle.policy_doc.specs.declared.policies.Statement.{Statement}
use Rattle.policy_eval.specs.Matching.{ActionMatches}

-- an Allow statement or a Deny statement, as is asked for, that is about the action
unfoldable pub IsAbout : Bool → Statement → Action → Type 0
IsAbout allow s action = (s.allow ≡ allow) × ActionMatches s action

-- a set has every action that some of these statements of the effect is about
unfoldable pub Covers : Bool → ActionSet → List Statement → Type 0
Covers allow set statements = (action : Action) → Any (λ s. IsAbout allow s action) statements → has_action set action ≡ true
