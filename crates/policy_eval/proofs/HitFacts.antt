-- What statements are asked, and what a policy says by it.
use Rattle.std.proofs.Common.{Bool, true, false, List}
use Rattle.std.specs.Prelude.{◌↔◌, IsTrue, Any}
use Rattle.cond_ops.specs.declared.facts.RequestFacts.{RequestFacts}
use Rattle.policy_doc.specs.declared.policies.Statement.{Statement}
use Rattle.policy_eval.specs.declared.naming.Naming.TheVariants.{Anyone, CallerOrAccount}
use Rattle.policy_eval.specs.Hits.{IsNamed, Hits, SomeHits}
use Rattle.policy_eval.specs.Verdict.{IsAllow, IsDeny, IsDenyOf, SomeDenies}
use Rattle.policy_eval.proofs.AnyFacts.{any_same}

module _ (ss : List Statement) (request : RequestFacts) (b : Bool) where
  pub denies_caller : IsTrue b ↔ SomeHits false CallerOrAccount ss request → IsTrue b ↔ SomeDenies ss request
  unfolding Hits IsNamed IsDenyOf IsDeny
  denies_caller =
      any_same (λ s. Hits false CallerOrAccount s request) (λ s. IsDenyOf s request) (λ s h. ((h.0, h.1), h.2)) (λ s h. (h.0.0, h.0.1, h.1)) ss b

  pub denies_anyone : IsTrue b ↔ SomeHits false Anyone ss request → IsTrue b ↔ Any (λ s. IsDeny s request) ss
  unfolding Hits IsNamed IsDeny
  denies_anyone = any_same (λ s. Hits false Anyone s request) (λ s. IsDeny s request) (λ s h. (h.0, h.1)) (λ s h. (h.0, h.1, tt)) ss b

  pub allows_anyone : IsTrue b ↔ SomeHits true Anyone ss request → IsTrue b ↔ Any (λ s. IsAllow s request) ss
  unfolding Hits IsNamed IsAllow
  allows_anyone = any_same (λ s. Hits true Anyone s request) (λ s. IsAllow s request) (λ s h. (h.0, h.1)) (λ s h. (h.0, h.1, tt)) ss b
