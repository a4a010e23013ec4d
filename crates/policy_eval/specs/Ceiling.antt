-- Whether documents that bound a whole account let a request pass (AWS Organizations User Guide, "SCP evaluation": an explicit
-- Deny stops it, and so does the lack of an Allow; the documents allow nothing by themselves).
use Rattle.std.specs.Prelude.{◌≡◌, ◌⊎◌, List, [], Any}
use Rattle.cond_ops.specs.declared.facts.RequestFacts.{RequestFacts}
use Rattle.policy_doc.specs.declared.policies.Policy.{Policy}
use Rattle.policy_eval.specs.Verdict.{IsAllow, IsDeny}

-- a statement of some document denies it, allows it; whom a statement names doesn't count
abbrev pub SomeDocumentDenies : List Policy → RequestFacts → Type 0
SomeDocumentDenies documents request = Any (λ (p : Policy). Any (λ s. IsDeny s request) p.statements) documents

abbrev pub SomeDocumentAllows : List Policy → RequestFacts → Type 0
SomeDocumentAllows documents request = Any (λ (p : Policy). Any (λ s. IsAllow s request) p.statements) documents

-- there are no documents, or no statement of theirs denies it and one allows it
abbrev pub Under : List Policy → RequestFacts → Type 0
Under documents request = (documents ≡ []) ⊎ (¬ (SomeDocumentDenies documents request) × SomeDocumentAllows documents request)
