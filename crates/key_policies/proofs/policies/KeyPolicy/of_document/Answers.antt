use Rattle.std.proofs.Common.{◌∙◌, sym}
use Rattle.key_policies.proofs.DocumentFacts.{faulty_is}
use Rattle.key_policies.proofs.Results.{ok_where}
use Rattle.key_policies.proofs.policies.KeyPolicy.of_document.Goals as goal

pub returns-in-Err : goal.returns-in-Err
returns-in-Err c = ok_where c.of_faulty.result (λ p e. e.1 ∙ sym (faulty_is c.args.text.now c.in-Err.fault (c.in-Err.ensures.fault e.0))) c.of_faulty.ensures
