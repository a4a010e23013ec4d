use Rattle.std.proofs.Common.{◌∙◌, sym, ap}
use Rattle.policy_doc.specs.declared.policies.Policy.{Policy}
use Rattle.key_policies.proofs.DocumentFacts.{faulty_is}
use Rattle.key_policies.proofs.Results.{ok_where}
use Rattle.access_explain.proofs.documents.statements_in.Goals as goal

pub returns-in-Ok : goal.returns-in-Ok
returns-in-Ok c = ap (λ (p : Policy). p.statements) c.in-Ok.ensures.ok.1

pub returns-in-Err : goal.returns-in-Err
returns-in-Err c =
    ok_where c.no_statements.result (λ statements e. e.1 ∙ sym (ap (λ (p : Policy). p.statements) (faulty_is c.args.text.now c.in-Err.fault (c.in-Err.ensures.fault e.0)))) c.no_statements.ensures
