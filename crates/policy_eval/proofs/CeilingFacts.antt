-- What the documents of a ceiling say, by tests, and of requests of which their conditions say the same.
use Rattle.std.proofs.Common.{◌≡◌, ◌⊎◌, inl, inr, ℕ, ◌<◌, Bool, true, false, not, ◌&&◌, List, [], length, get_or, refl, sym, ◌∙◌}
use Rattle.std.specs.Prelude.{◌↔◌, IsTrue, Any}
use Rattle.cond_ops.specs.declared.facts.RequestFacts.{RequestFacts}
use Rattle.policy_doc.specs.declared.policies.Policy.{Policy}
use Rattle.policy_eval.specs.declared.ceilings.CeilingVerdict.{CeilingVerdict}
use Rattle.policy_eval.specs.declared.ceilings.CeilingVerdict.TheVariants.{Passes, Stops}
use Rattle.policy_eval.specs.Verdict.{IsAllow, IsDeny, HasConditions, AskTheSame}
use Rattle.policy_eval.specs.Ceiling.{SomeDocumentDenies, SomeDocumentAllows, Under}
use Rattle.policy_eval.specs.CeilingOf.{ceiling_of, ceiling_of_lem, CeilingGoesByQuestion}
use Rattle.policy_eval.specs.Asking.{AsksFor, AskTheSameBut, CeilingGoesWithout}
use Rattle.policy_eval.proofs.AskingFacts.{conditions_too}
use Rattle.policy_eval.proofs.VerdictFacts.{any_so, IsLikeness, SayTheSame, some_deny_too, some_allow_too, by_question, nothing_said, but_one}

-- ---- by tests

no_both : (b : Bool) → b ≡ false → b ≡ true → ⊥
no_both b e f = let bad : false ≡ true = sym e ∙ f in cc

pub by_tests : {N D A : Type 0} (d a : Bool) → ¬ N → IsTrue d ↔ D → IsTrue a ↔ A → IsTrue (not d && a) ↔ (N ⊎ (¬ D × A))
by_tests true a some denies allows = (λ t. cc, λ under. elim under [ inl none ↦ absurd (some none) | inr h ↦ absurd (h.0 (denies.0 refl)) ])
by_tests false a some denies allows = (
  λ t. inr (λ d. no_both false refl (denies.1 d), allows.0 t),
  λ under. elim under [ inl none ↦ absurd (some none) | inr h ↦ allows.1 h.1 ],
)

-- two that pass where the same holds are one
pub same_verdict : {P Q : Type 0} (v w : CeilingVerdict) → (v ≡ Passes) ↔ P → (w ≡ Passes) ↔ Q → (P → Q) → (Q → P) → v ≡ w
same_verdict Passes Passes p q to back = refl
same_verdict Stops Stops p q to back = refl
same_verdict Passes Stops p q to back = sym (q.1 (to (p.0 refl)))
same_verdict Stops Passes p q to back = p.1 (back (q.0 refl))

pub is_ceiling_of : (documents : List Policy) (request : RequestFacts) (v : CeilingVerdict) → (v ≡ Passes) ↔ Under documents request → v ≡ ceiling_of documents request
is_ceiling_of documents request v says = same_verdict v (ceiling_of documents request) says (ceiling_of_lem documents request) (λ h. h) (λ h. h)

-- ---- an account without a ceiling

pub none_stops : (documents : List Policy) (request : RequestFacts) → documents ≡ [] → ceiling_of documents request ≡ Passes
none_stops documents request none = (ceiling_of_lem documents request).1 (inl none)

-- ---- documents whose conditions say the same of requests that are alike

module _ (Alike : RequestFacts → RequestFacts → Type 0) (likeness : IsLikeness Alike) (documents : List Policy)
    (say : (p : Policy) (k : ℕ) → k < length documents → get_or documents k p ≡ p → SayTheSame Alike p.statements) where
  module _ (a b : RequestFacts) (same : Alike a b) where
    denies_too : SomeDocumentDenies documents a → SomeDocumentDenies documents b
    denies_too =
        any_so (λ (p : Policy). Any (λ s. IsDeny s a) p.statements) (λ (p : Policy). Any (λ s. IsDeny s b) p.statements) documents
        (λ p k lt at. some_deny_too Alike likeness p.statements (say p k lt at) a b same)

    allows_too : SomeDocumentAllows documents a → SomeDocumentAllows documents b
    allows_too =
        any_so (λ (p : Policy). Any (λ s. IsAllow s a) p.statements) (λ (p : Policy). Any (λ s. IsAllow s b) p.statements) documents
        (λ p k lt at. some_allow_too Alike likeness p.statements (say p k lt at) a b same)

  under_too : (a b : RequestFacts) → Alike a b → Under documents a → Under documents b
  under_too a b same (inl empty) = inl empty
  under_too a b same (inr (unasked, allows)) = inr (λ d. unasked (denies_too b a (likeness.turns a b same) d), allows_too a b same allows)

  one_ceiling : (a b : RequestFacts) → Alike a b → ceiling_of documents a ≡ ceiling_of documents b
  one_ceiling a b same =
      same_verdict (ceiling_of documents a) (ceiling_of documents b) (ceiling_of_lem documents a) (ceiling_of_lem documents b)
      (under_too a b same) (under_too b a (likeness.turns a b same))

pub ceiling_by_question : (documents : List Policy) → ¬ (Any HasConditions documents) → CeilingGoesByQuestion documents
ceiling_by_question documents none =
    one_ceiling AskTheSame by_question documents (λ p k lt at. nothing_said p.statements (λ some. none (k, p, lt, at, some)))

pub ceiling_without : (key : List ℕ) (documents : List Policy) → ¬ (Any (AsksFor key) documents) → CeilingGoesWithout key documents
ceiling_without key documents none =
    one_ceiling (AskTheSameBut key) (but_one key) documents (λ p k lt at. conditions_too key p.statements (λ some. none (k, p, lt, at, some)))
