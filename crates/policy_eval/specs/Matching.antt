-- When a statement matches a request (IAM User Guide, "Policy evaluation logic", and "IAM JSON policy elements":
-- Action, NotAction, Resource, NotResource and Condition).
use Rattle.std.specs.Prelude.{ℕ, List, [], ◌∷◌, All, Any}
use Rattle.kms_names.specs.ActionSet.{IsActionLike}
use Rattle.kms_names.specs.declared.actions.Action.{Action}
use Rattle.cond_ops.specs.declared.facts.RequestFacts.{RequestFacts}
use Rattle.cond_ops.specs.Holds.{Holds}
use Rattle.cond_ops.specs.Relation.{IsLike}
use Rattle.policy_doc.specs.declared.policies.Statement.{Statement}

-- of an element and its Not-form one is given, and the other has no texts. The element matches where some of its
-- texts does, the Not-form where none of its texts does
abbrev pub ElementMatches : (List ℕ → Type 0) → List (List ℕ) → List (List ℕ) → Type 0
ElementMatches IsMatch texts [] = Any IsMatch texts
ElementMatches IsMatch texts (text ∷ others) = All (λ t. ¬ (IsMatch t)) (text ∷ others)

-- its Action or NotAction matches: a text is a glob of `kms:` and the action's name, without ASCII case
unfoldable pub ActionMatches : Statement → Action → Type 0
ActionMatches s action = ElementMatches (λ glob. IsActionLike glob action) s.actions s.not_actions

-- its Resource or NotResource matches: a text is a glob of the resource's ARN
unfoldable pub ResourceMatches : Statement → List ℕ → Type 0
ResourceMatches s resource = ElementMatches (λ glob. IsLike resource glob) s.resources s.not_resources

-- each of its conditions holds
unfoldable pub ConditionsHold : Statement → RequestFacts → Type 0
ConditionsHold s request = All (λ condition. Holds condition request) s.conditions

-- the statement matches the request: its action, its resource, and all its conditions
unfoldable pub Matches : Statement → RequestFacts → Type 0
Matches s request = ActionMatches s request.action × ResourceMatches s request.resource × ConditionsHold s request
