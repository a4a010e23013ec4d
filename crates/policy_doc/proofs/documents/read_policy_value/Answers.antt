-- Where a document has no fault, the value is a policy's.
use Rattle.std.proofs.Common.{◌≡◌, None, refl, sym, subst, rules}
use Rattle.serde_json.specs.View.{view}
use Rattle.policy_doc.specs.Documents.{first_fault, statements_of}
use Rattle.policy_doc.specs.Grammar.{IsPolicyOf}
use Rattle.policy_doc.proofs.GrammarFacts.{policy_tells}
use Rattle.policy_doc.proofs.documents.read_policy_value.Goals as goal

pub returns-in_err-statements-clause-fault : goal.returns-in_err-statements-clause-fault
unfolding first_fault
returns-in_err-statements-clause-fault c = search rules

pub returns-clause-ok : goal.returns-clause-ok
unfolding first_fault statements_of
returns-clause-ok c =
    let none : first_fault c.args.kind (view c.args.value.now) ≡ None = c.in_ok-statements.ensures.0 in
    (refl, subst (IsPolicyOf c.args.kind (view c.args.value.now)) (sym c.in_ok-statements.ensures.1) ((policy_tells c.args.kind (view c.args.value.now)).0 none))
