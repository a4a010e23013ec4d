-- The marks of statements and of grants: what became of each where a question was asked of it.
use Rattle.std.specs.Prelude.{◌≡◌, ◌≢◌, ◌⊎◌, true, false}
use Rattle.kms_names.specs.declared.operations.GrantOp.{GrantOp}
use Rattle.kms_names.specs.declared.operations.GrantOp.TheVariants.{CreateGrant}
use Rattle.kms_names.specs.declared.principals.Principal.{Principal}
use Rattle.kms_names.specs.GrantOps.{contains}
use Rattle.cond_ops.specs.declared.facts.RequestFacts.{RequestFacts}
use Rattle.policy_doc.specs.declared.policies.Statement.{Statement}
use Rattle.policy_eval.specs.Matching.{ActionMatches, ResourceMatches, ConditionsHold}
use Rattle.policy_eval.specs.Naming.{NamesCaller, NamesAccount}
use Rattle.grant_table.specs.Constraints.{ConstraintHolds}
use Rattle.grant_table.specs.Grants.{asks_constraint, IsChildOf}
use Rattle.grant_table.specs.declared.rows.GrantRow.{GrantRow}
use Rattle.account_steps.specs.declared.questions.OfGrants.{OfGrants}
use Rattle.account_steps.specs.declared.questions.OfGrants.TheVariants as of_grants
use Rattle.access_explain.specs.declared.marks.Mark.{Mark}
use Rattle.access_explain.specs.declared.marks.Mark.TheVariants as mark

-- ---- statements of the caller's own policies and of the ceiling, of which whom they name doesn't count

-- Hit where the statement matches, else the first that fails of its action, its resource and its conditions
abbrev pub IsMark : Statement → RequestFacts → Mark → Type 0
IsMark s request mark.Hit = ActionMatches s request.action × ResourceMatches s request.resource × ConditionsHold s request
IsMark s request mark.RootHit = ⊥
IsMark s request mark.Principal = ⊥
IsMark s request mark.Action = ¬ (ActionMatches s request.action)
IsMark s request mark.Resource = ActionMatches s request.action × ¬ (ResourceMatches s request.resource)
IsMark s request mark.Condition = ActionMatches s request.action × ResourceMatches s request.resource × ¬ (ConditionsHold s request)

-- ---- statements of the policy of a key

-- the statement names everyone, the caller, or the root of the caller's account
abbrev pub Names : Statement → RequestFacts → Type 0
Names s request = NamesCaller s.principals request.caller ⊎ NamesAccount s.principals request.caller

-- it names everyone or the caller; a Deny statement that names the root counts for the caller as well
abbrev pub CountsForCaller : Statement → RequestFacts → Type 0
CountsForCaller s request = NamesCaller s.principals request.caller ⊎ ((s.allow ≡ false) × NamesAccount s.principals request.caller)

-- it is an Allow statement that names the root, but neither everyone nor the caller
abbrev pub CountsForRoot : Statement → RequestFacts → Type 0
CountsForRoot s request = (s.allow ≡ true) × NamesAccount s.principals request.caller × ¬ (NamesCaller s.principals request.caller)

-- Hit where the statement matches and counts for the caller, RootHit where it matches and counts for the root alone, else the first
-- that fails of the principals that it names, its action, its resource and its conditions
abbrev pub IsKeyMark : Statement → RequestFacts → Mark → Type 0
IsKeyMark s request mark.Hit = IsMark s request mark.Hit × CountsForCaller s request
IsKeyMark s request mark.RootHit = IsMark s request mark.Hit × CountsForRoot s request
IsKeyMark s request mark.Principal = ¬ (Names s request)
IsKeyMark s request mark.Action = Names s request × IsMark s request mark.Action
IsKeyMark s request mark.Resource = Names s request × IsMark s request mark.Resource
IsKeyMark s request mark.Condition = Names s request × IsMark s request mark.Condition

-- ---- grants of a key

-- the operation that a grant has to have: CreateGrant for the grant of a child
abbrev pub needed : GrantOp → OfGrants → GrantOp
needed op (of_grants.Child operations constraint) = CreateGrant
needed op (of_grants.Permit context) = op
needed op of_grants.Nothing = op
needed op (of_grants.Retire grant) = op

-- its constraint holds of the context, where the operation asks for it; what is asked for would be a child of it
abbrev pub Suits : GrantOp → OfGrants → GrantRow → Type 0
Suits op (of_grants.Permit context) row = asks_constraint op ≡ true → ConstraintHolds row.constraint context
Suits op (of_grants.Child operations constraint) row = IsChildOf row operations constraint
Suits op of_grants.Nothing row = ⊥
Suits op (of_grants.Retire grant) row = ⊥

-- Hit where the grant permits it, else the first that fails: the caller is its grantee, the operation is among its own, and its
-- constraint, or the child, suits
abbrev pub IsGrantMark : Principal → GrantOp → OfGrants → GrantRow → Mark → Type 0
IsGrantMark caller op grants row mark.Hit = (row.grantee ≡ caller) × (contains row.operations (needed op grants) ≡ true) × Suits op grants row
IsGrantMark caller op grants row mark.RootHit = ⊥
IsGrantMark caller op grants row mark.Principal = row.grantee ≢ caller
IsGrantMark caller op grants row mark.Action = (row.grantee ≡ caller) × (contains row.operations (needed op grants) ≡ false)
IsGrantMark caller op grants row mark.Resource = ⊥
IsGrantMark caller op grants row mark.Condition = (row.grantee ≡ caller) × (contains row.operations (needed op grants) ≡ true) × ¬ (Suits op grants row)
