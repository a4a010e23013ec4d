-- Whether the ceiling of an account lets a request pass, as a function: exactly where `Under` holds, which it does or doesn't.
use Rattle.std.specs.Prelude.{◌≡◌, ◌↔◌, List, [], ◌∷◌, Any, refl}
use Rattle.std.proofs.Common.{inl, inr}
use Rattle.kms_names.proofs.Decisions.{Decided, decided_not, decided_both, decided_either, decided_any}
use Rattle.cond_ops.specs.declared.facts.RequestFacts.{RequestFacts}
use Rattle.policy_doc.specs.declared.policies.Policy.{Policy}
use Rattle.policy_eval.specs.declared.ceilings.CeilingVerdict.{CeilingVerdict}
use Rattle.policy_eval.specs.declared.ceilings.CeilingVerdict.TheVariants.{Passes, Stops}
use Rattle.policy_eval.specs.Ceiling.{Under}
use Rattle.policy_eval.specs.Verdict.{IsAllow, IsDeny, AskTheSame}
use Rattle.policy_eval.specs.VerdictOf.{decided_allow, decided_deny}

decided_none : (documents : List Policy) → Decided (documents ≡ [])
decided_none [] = inl refl
decided_none (p ∷ documents) = inr (λ e. cc)

decided_under : (documents : List Policy) (request : RequestFacts) → Decided (Under documents request)
decided_under documents request =
    decided_either (decided_none documents)
    (decided_both
    (decided_not (decided_any (λ (p : Policy). Any (λ s. IsDeny s request) p.statements) (λ p. decided_any (λ s. IsDeny s request) (decided_deny request) p.statements) documents))
    (decided_any (λ (p : Policy). Any (λ s. IsAllow s request) p.statements) (λ p. decided_any (λ s. IsAllow s request) (decided_allow request) p.statements) documents))

verdict_where : {P : Type 0} → Decided P → CeilingVerdict
verdict_where (inl holds) = Passes
verdict_where (inr not) = Stops

tells_where : {P : Type 0} (decided : Decided P) → (verdict_where decided ≡ Passes) ↔ P
unfolding verdict_where
tells_where (inl holds) = (λ e. holds, λ h. refl)
tells_where (inr not) = (λ e. cc, λ h. absurd (not h))

-- whether the documents let the request pass: exactly where `Under` holds
pub ceiling_of : List Policy → RequestFacts → CeilingVerdict
ceiling_of documents request = verdict_where (decided_under documents request)

pub ceiling_of_lem : (documents : List Policy) (request : RequestFacts) → (ceiling_of documents request ≡ Passes) ↔ Under documents request
unfolding ceiling_of
ceiling_of_lem documents request = tells_where (decided_under documents request)

-- it goes by the caller, the action and the resource alone
abbrev pub CeilingGoesByQuestion : List Policy → Type 0
CeilingGoesByQuestion documents = (a b : RequestFacts) → AskTheSame a b → ceiling_of documents a ≡ ceiling_of documents b
