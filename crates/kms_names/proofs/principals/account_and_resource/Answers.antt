-- Where one of the steps finds nothing, no account and resource stand there.
use Rattle.std.proofs.Common.{◌++◌, ◌∙◌, ap}
use Rattle.kms_names.proofs.PartsFacts.{no_part_without_colon}
use Rattle.kms_names.proofs.PrincipalFacts.{front, other_account}
use Rattle.kms_names.proofs.principals.account_and_resource.Goals as goal

pub returns-in_err-after : goal.returns-in_err-after
returns-in_err-after c = rw c.from_residual.ensures (λ a r at. c.in_err-after.ensures _ at.1)

pub returns-in_err-account : goal.returns-in_err-account
returns-in_err-account c =
    rw c.from_residual-in_err-account.ensures
    (λ a r at. no_part_without_colon front _ _ a r c.in_ok-after.ensures c.in_err-account.ensures at.1)

pub returns-in_err-read : goal.returns-in_err-read
returns-in_err-read c =
    let parts = c.in_ok-account.ensures in
    rw c.from_residual-in_err-read.ensures
    (other_account _ _ _ parts.0 (c.in_ok-after.ensures ∙ ap (λ rest. front ++ rest) parts.1) c.in_err-read.ensures)
