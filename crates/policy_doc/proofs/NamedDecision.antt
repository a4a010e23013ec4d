-- Whether two of those that statements name are one is decided.
use Rattle.std.proofs.Common.{◌≡◌, inl, inr, refl, ap}
use Rattle.kms_names.proofs.Decisions.{Decided, decided_like}
use Rattle.kms_names.proofs.PrincipalDecision.{same_principal}
use Rattle.policy_doc.specs.declared.policies.Named.{Named}
use Rattle.policy_doc.specs.declared.policies.Named.TheVariants.{Everyone, One}

pub same_named : (m n : Named) → Decided (m ≡ n)
same_named Everyone Everyone = inl refl
same_named Everyone (One p) = inr (λ e. cc)
same_named (One p) Everyone = inr (λ e. cc)
same_named (One p) (One q) = decided_like (λ e. ap One e) (λ e. cc) (same_principal p q)
