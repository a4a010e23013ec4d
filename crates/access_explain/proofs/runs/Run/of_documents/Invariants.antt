use Rattle.std.proofs.Common.{take}
use Rattle.policy_doc.specs.declared.policies.PolicyKind.TheVariants.{Identity}
use Rattle.access_explain.specs.Findings.{statements_of}
use Rattle.access_explain.specs.Tests.{IsRunOf}
use Rattle.access_explain.proofs.runs.Run.of_documents.Given as goal

abbrev pub invariant-loop-document : goal.invariant-loop-document
invariant-loop-document l = IsRunOf Identity l.facts (statements_of (take l.document-index l.documents)) l.run
