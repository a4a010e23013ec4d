-- What reading a document comes to.
use Rattle.std.proofs.Common.{◌≡◌, ◌≢◌, subst, ℕ, List, ◌++◌, Some, Result, Ok, Err, sym, ap, ◌∙◌}
use Rattle.serde_json.specs.Data.{Data}
use Rattle.policy_doc.specs.Documents.{first_fault}
use Rattle.policy_doc.specs.Grammar.{IsPolicyOf}
use Rattle.policy_doc.specs.declared.faults.PolicyFault.{PolicyFault}
use Rattle.policy_doc.specs.declared.policies.Policy.{Policy}
use Rattle.policy_doc.specs.declared.policies.PolicyKind.TheVariants.{Identity}
use Rattle.policy_doc.proofs.GrammarFacts.{policy_tells}
use Rattle.policy_doc.specs.declared.faults.PolicyFault.TheVariants.{NoMemory}
use Rattle.kms_config.specs.declared.faults.ConfigFault.{ConfigFault}
use Rattle.kms_config.specs.Answers.{Answers}
use Rattle.kms_config.specs.Identities.{fault_place, document_by, document_in}

module _ (path : List ℕ) (d : Data) where
  pub document_read : (p : Policy) → p.kind ≡ Identity → IsPolicyOf Identity d p.statements → document_in path d ≡ Ok p
  unfolding document_in
  document_read p kind is =
      let told = (policy_tells Identity d).1 p.statements is in
      ap (document_by path d) told.0 ∙ ap Ok (sym (λ i. record { kind = kind i; statements = told.1 i }))

  document_refused : (why : PolicyFault) → first_fault Identity d ≡ Some why → document_in path d ≡ Err (path ++ fault_place why)
  unfolding document_in
  document_refused why e = ap (document_by path d) e

  pub refused_at : (field why : PolicyFault) (text : List ℕ) (answer : Result Policy ConfigFault) → (field ≢ NoMemory → first_fault Identity d ≡ Some field) → field ≡ why → why ≢ NoMemory
      → text ≡ fault_place why → Answers {A = Policy} (Err (path ++ text)) answer → Answers (document_in path d) answer
  refused_at field why text answer told is some place h =
      let first : first_fault Identity d ≡ Some why = told (λ e. some (sym is ∙ e)) ∙ ap Some is in
      subst (λ w. Answers {A = Policy} w answer) (sym (document_refused why first)) (subst (λ (t : List ℕ). Answers {A = Policy} (Err (path ++ t)) answer) place h)
