-- The actions that the statements of each effect are about.
use Rattle.std.proofs.Common.{◌≡◌, inl, inr, Bool, true, false, ◌||◌, List, [], ◌∷◌, ◌++◌, sym, ◌∙◌, arith}
use Rattle.std.specs.Prelude.{◌↔◌, IsTrue, Any}
use Rattle.kms_names.specs.declared.actions.Action.{Action}
use Rattle.kms_names.specs.declared.action_sets.ActionSet.{ActionSet}
use Rattle.kms_names.specs.ActionSet.{has_action}
use Rattle.cond_ops.specs.declared.facts.RequestFacts.{RequestFacts}
use Rattle.policy_doc.specs.declared.policies.Statement.{Statement}
use Rattle.policy_eval.specs.declared.naming.Naming.{Naming}
use Rattle.policy_eval.specs.Group.{IsAbout, Covers}
use Rattle.policy_eval.specs.Hits.{Hits, SomeHits}
use Rattle.policy_eval.specs.Matching.{ActionMatches, Matches}
use Rattle.policy_eval.specs.Verdict.{IsAllow, AllowsCaller, AllowsAccount, SomeAllowsCaller, SomeAllowsAccount}
use Rattle.policy_eval.proofs.AnyFacts.{any_split}

pub covers_none : (allow : Bool) (set : ActionSet) → Covers allow set []
unfolding Covers
covers_none allow set action (k, s, lt, at, h) = absurd (omega arith)

or_left : (a b : Bool) → a ≡ true → a || b ≡ true
or_left true b h = h
or_left false b h = cc

or_right : (a b : Bool) → b ≡ true → a || b ≡ true
or_right true true h = h
or_right false true h = h
or_right true false h = cc
or_right false false h = h

-- a statement of the effect, whose actions are added
module _ (old more new : ActionSet) (union : (action : Action) → has_action new action ≡ has_action old action || has_action more action) where
  pub has_old : (action : Action) → has_action old action ≡ true → has_action new action ≡ true
  has_old action has = union action ∙ or_left (has_action old action) (has_action more action) has

  pub has_new : (allow : Bool) (s : Statement) → ((action : Action) → IsTrue (has_action more action) ↔ ActionMatches s action)
      → (action : Action) → IsAbout allow s action → has_action new action ≡ true
  unfolding IsAbout
  has_new allow s matched action h = union action ∙ or_right (has_action old action) (has_action more action) ((matched action).1 h.1)

-- a statement of another effect
pub not_about : (allow b : Bool) (s : Statement) → s.allow ≡ b → ¬ (b ≡ allow) → (action : Action) → IsAbout allow s action → ⊥
unfolding IsAbout
not_about allow b s is other action h = other (sym is ∙ h.0)

module _ (allow : Bool) (old new : ActionSet) (has_old : (action : Action) → has_action old action ≡ true → has_action new action ≡ true) where
  -- the set is larger
  pub covers_still : (statements : List Statement) → Covers allow old statements → Covers allow new statements
  unfolding Covers
  covers_still statements so_far action any = has_old action (so_far action any)

  -- and one statement more
  pub covers_more : (statements : List Statement) (s : Statement) → ((action : Action) → IsAbout allow s action → has_action new action ≡ true)
      → Covers allow old statements → Covers allow new (statements ++ s ∷ [])
  unfolding Covers
  covers_more statements s has_new so_far action any =
      elim (any_split (λ t. IsAbout allow t action) statements s any) [
        | inl before ↦ has_old action (so_far action before)
        | inr here ↦ has_new action here
      ]

-- where the set lacks an action, no statement of the effect is about it
pub none_about : (allow : Bool) (set : ActionSet) (statements : List Statement) (action : Action) → Covers allow set statements → has_action set action ≡ false
    → Any (λ s. IsAbout allow s action) statements → ⊥
unfolding Covers
none_about allow set statements action covers lacks any = let bad : false ≡ true = sym lacks ∙ covers action any in cc

-- and none of the effect hits
pub none_hits : (allow : Bool) (statements : List Statement) (naming : Naming) (request : RequestFacts) → (Any (λ s. IsAbout allow s request.action) statements → ⊥)
    → SomeHits allow naming statements request → ⊥
unfolding IsAbout Hits Matches
none_hits allow statements naming request none (k, s, lt, at, h) = none (k, s, lt, at, (h.0, h.1.0))

module _ (statements : List Statement) (request : RequestFacts) (none : Any (λ s. IsAbout true s request.action) statements → ⊥) where
  pub none_allows_caller : SomeAllowsCaller statements request → ⊥
  unfolding IsAbout AllowsCaller IsAllow Matches
  none_allows_caller (k, s, lt, at, h) = none (k, s, lt, at, (h.0.0, h.0.1.0))

  pub none_allows_account : SomeAllowsAccount statements request → ⊥
  unfolding IsAbout AllowsAccount IsAllow Matches
  none_allows_account (k, s, lt, at, h) = none (k, s, lt, at, (h.0.0, h.0.1.0))
