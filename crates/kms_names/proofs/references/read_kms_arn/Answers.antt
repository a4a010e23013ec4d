-- Where one of the steps finds nothing, the text is no ARN of the key service.
use Rattle.std.proofs.Common.{◌++◌, ◌∙◌, ap, rules}
use Rattle.kms_names.proofs.ReferenceFacts.{kms_front, no_arn_without_region, no_arn_without_account, no_arn_at_other_account, no_arn_at_other_region}
use Rattle.kms_names.proofs.references.read_kms_arn.Goals as goal

pub returns-in_err-after : goal.returns-in_err-after
returns-in_err-after c = rw c.from_residual.ensures (λ r a s at. c.in_err-after.ensures _ at.2)

pub returns-in_err-region : goal.returns-in_err-region
returns-in_err-region c =
    rw c.from_residual-in_err-region.ensures (no_arn_without_region _ _ c.in_ok-after.ensures c.in_err-region.ensures)

pub returns-in_err-account : goal.returns-in_err-account
returns-in_err-account c =
    let parts = c.in_ok-region.ensures in
    rw c.from_residual-in_err-account.ensures
    (no_arn_without_account _ _ _ parts.0 (c.in_ok-after.ensures ∙ ap (λ rest. kms_front ++ rest) parts.1) c.in_err-account.ensures)

pub returns-in_err-account-2 : goal.returns-in_err-account-2
returns-in_err-account-2 c =
    let parts = c.in_ok-region.ensures in
    let behind = c.in_ok-account.ensures in
    rw c.from_residual-in_err-account-2.ensures
    (no_arn_at_other_account _ _ _ parts.0 (c.in_ok-after.ensures ∙ ap (λ rest. kms_front ++ rest) parts.1) _ _ behind.0 behind.1 c.in_err-account-2.ensures)

pub returns-else-is_region : goal.returns-else-is_region
returns-else-is_region c =
    let parts = c.in_ok-region.ensures in
    no_arn_at_other_region _ _ _ parts.0 (c.in_ok-after.ensures ∙ ap (λ rest. kms_front ++ rest) parts.1) (search rules)
