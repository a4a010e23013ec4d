use Rattle.std.proofs.Common.{◌≡◌, ◌∙◌, subst, ap, List, ℕ, Ok, Err}
use Rattle.kms_names.specs.declared.faults.NameFault.TheVariants.{BadArn}
use Rattle.kms_json.specs.declared.refusals.Refusal.TheVariants as refusal
use Rattle.account_steps.specs.Given.{principal_in}
use Rattle.account_steps.proofs.PrincipalFacts.{principal_found, no_principal}
use Rattle.account_steps.proofs.given.principal_in.Goals as goal

pub returns-in-Ok : goal.returns-in-Ok
returns-in-Ok c =
    let reads = c.read_principal.ensures in
    subst (λ (text : List ℕ). principal_in text ≡ Ok c.in-Ok.principal) c.as_str.ensures.value
    (principal_found c.as_str.result.now c.read_principal.result reads.ok reads.bad_arn reads.faults c.in-Ok.principal c.in-Ok.is)

pub returns-in-Err-BadArn : goal.returns-in-Err-BadArn
returns-in-Err-BadArn c =
    let reads = c.read_principal.ensures in
    subst (λ (text : List ℕ). principal_in text ≡ Err refusal.InvalidArn) c.as_str.ensures.value
    (no_principal c.as_str.result.now c.read_principal.result reads.ok reads.bad_arn reads.faults BadArn (λ e. cc) (c.in-Err-BadArn.is ∙ ap Err c.in-Err-BadArn.field-0-is))
