-- Whom statements allow, statement by statement.
use Rattle.std.proofs.Common.{◌≡◌, inl, inr, ℕ, ◌+◌, ◌<◌, Bool, true, false, List, [], ◌∷◌, ◌++◌, length, take, get_or, refl, sym, subst}
use Rattle.std.specs.Prelude.{◌↔◌, IsTrue, if◌then◌else◌}
use Rattle.std.proofs.lemmas.List.{take_more}
use Rattle.cond_ops.specs.declared.facts.RequestFacts.{RequestFacts}
use Rattle.policy_doc.specs.declared.policies.Statement.{Statement}
use Rattle.policy_eval.specs.declared.naming.Naming.TheVariants.{Caller, CallerOrAccount}
use Rattle.policy_eval.specs.Hits.{IsNamed, Hits}
use Rattle.policy_eval.specs.Verdict.{IsAllow, AllowsCaller, AllowsAccount, SomeAllowsCaller, SomeAllowsAccount}
use Rattle.policy_eval.proofs.AnyFacts.{any_split, any_front, any_last}

-- a statement allows more than those before it
abbrev pub HitsMore : Bool → Statement → RequestFacts → Type 0
HitsMore account s request = Hits true (if account then Caller else CallerOrAccount) s request

-- of some statements none allows the caller, and it is known whether one allows the account
pub record SoFar (account : Bool) (ss : List Statement) (request : RequestFacts) : Type 0 where
  pub not_caller : ¬ (SomeAllowsCaller ss request)
  pub is_account : IsTrue account ↔ SomeAllowsAccount ss request

module _ (request : RequestFacts) (s : Statement) where
  abbrev IsCallerNamed : Type 0
  IsCallerNamed = IsNamed Caller s.principals request.caller

  caller_hits : (account : Bool) → AllowsCaller s request → HitsMore account s request
  unfolding Hits IsNamed AllowsCaller IsAllow
  caller_hits true h = (h.0.0, h.0.1, h.1)
  caller_hits false h = (h.0.0, h.0.1, inl h.1)

  caller_named : AllowsCaller s request → IsCallerNamed
  unfolding IsNamed AllowsCaller
  caller_named h = h.1

  allows_caller : (account : Bool) → HitsMore account s request → IsCallerNamed → AllowsCaller s request
  unfolding Hits IsNamed AllowsCaller IsAllow
  allows_caller account h named = ((h.0, h.1), named)

  account_hits : AllowsAccount s request → HitsMore false s request
  unfolding Hits IsNamed AllowsAccount IsAllow
  account_hits h = (h.0.0, h.0.1, inr h.1)

  allows_account : HitsMore false s request → ¬ IsCallerNamed → AllowsAccount s request
  unfolding Hits IsNamed AllowsAccount IsAllow
  allows_account h not = elim h.2 [ inl caller ↦ absurd (not caller) | inr named ↦ ((h.0, h.1), named) ]

  module _ (ss : List Statement) where
    -- one more that doesn't hit
    missed : (account : Bool) → SoFar account ss request → ¬ (HitsMore account s request) → SoFar account (ss ++ s ∷ []) request
    missed account so_far not = record {
      not_caller = λ any. elim (any_split (λ t. AllowsCaller t request) ss s any) [
        | inl before ↦ so_far.not_caller before
        | inr here ↦ not (caller_hits account here)
      ];
      is_account = (
        λ t. any_front (λ t. AllowsAccount t request) ss s (so_far.is_account.0 t),
        λ any. elim (any_split (λ t. AllowsAccount t request) ss s any) [
          | inl before ↦ so_far.is_account.1 before
          | inr here ↦ unless account not here
        ],
      );
    }
      where
        unless : (b : Bool) → ¬ (HitsMore b s request) → AllowsAccount s request → b ≡ true
        unless true none h = refl
        unless false none h = absurd (none (account_hits h))

    -- one more that hits, and names the account alone
    hit : (account : Bool) → SoFar account ss request → HitsMore account s request → ¬ IsCallerNamed → SoFar true (ss ++ s ∷ []) request
    hit account so_far hits not = record {
      not_caller = λ any. elim (any_split (λ t. AllowsCaller t request) ss s any) [
        | inl before ↦ so_far.not_caller before
        | inr here ↦ not (caller_named here)
      ];
      is_account = (λ t. some account so_far.is_account.0 hits, λ any. refl);
    }
      where
        some : (b : Bool) → (b ≡ true → SomeAllowsAccount ss request) → HitsMore b s request → SomeAllowsAccount (ss ++ s ∷ []) request
        some true old h = any_front (λ t. AllowsAccount t request) ss s (old refl)
        some false old h = any_last (λ t. AllowsAccount t request) ss s (allows_account h not)

-- at the next place of a list
module _ (request : RequestFacts) (ss : List Statement) (i : ℕ) (s : Statement) (within : i < length ss) (at : s ≡ get_or ss i s) (account : Bool) (so_far : SoFar account (take i ss) request) where
  next : (b : Bool) → SoFar b (take i ss ++ s ∷ []) request → SoFar b (take (i + 1) ss) request
  next b h = subst (λ xs. SoFar b xs request) (sym (take_more ss i s within)) (subst (λ t. SoFar b (take i ss ++ t ∷ []) request) at h)

  pub next_missed : ¬ (HitsMore account s request) → SoFar account (take (i + 1) ss) request
  next_missed not = next account (missed request s (take i ss) account so_far not)

  pub next_hit : HitsMore account s request → ¬ (IsNamed Caller s.principals request.caller) → SoFar true (take (i + 1) ss) request
  next_hit hits not = next true (hit request s (take i ss) account so_far hits not)

  pub some_allows_caller : HitsMore account s request → IsNamed Caller s.principals request.caller → SomeAllowsCaller ss request
  some_allows_caller hits named = (i, s, within, sym at, allows_caller request s account hits named)
