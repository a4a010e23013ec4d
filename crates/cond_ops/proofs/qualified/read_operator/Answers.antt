use Rattle.std.proofs.Common.{◌≡◌, true, false, sym, ◌∙◌}
use Rattle.cond_ops.proofs.OperatorFacts.{no_name, not_allowed}
use Rattle.cond_ops.proofs.qualified.read_operator.Goals as goal

pub returns-in_err-operator : goal.returns-in_err-operator
returns-in_err-operator c = rw c.from_residual.ensures (no_name c.args.text.now _ _ c.after_prefix-qualifier.ensures c.in_err-operator.ensures)

pub returns-else-is_well_qualified : goal.returns-else-is_well_qualified
returns-else-is_well_qualified c =
    not_allowed c.args.text.now _ _ c.after_prefix-qualifier.ensures c.in_ok-operator.operator c.in_ok-operator.if_exists c.in_ok-operator.ensures
    (λ well. let both : false ≡ true = sym c.if-is_well_qualified.false ∙ c.is_well_qualified.ensures.1 well in cc)
