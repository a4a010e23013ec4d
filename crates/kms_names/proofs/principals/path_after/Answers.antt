-- Behind a front stands one text.
use Rattle.std.proofs.Common.{◌∙◌, sym, subst, rules}
use Rattle.std.proofs.lemmas.List.{append_cancel_left}
use Rattle.kms_names.specs.Principal.{IsPathAndName}
use Rattle.kms_names.proofs.principals.path_after.Goals as goal

pub returns-in_err-name : goal.returns-in_err-name
returns-in_err-name c = rw c.from_residual.ensures (λ n _. c.in_err-name.ensures n)

pub returns-else-is_path_and_name : goal.returns-else-is_path_and_name
returns-else-is_path_and_name c = λ n proper e.
    let same = append_cancel_left c.args.front.now _ _ (sym e ∙ c.in_ok-name.ensures) in
    let proper_name : IsPathAndName c.in_ok-name.name.now = subst IsPathAndName same proper in
    search rules
