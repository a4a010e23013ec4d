use Rattle.std.proofs.Common.{sym, subst, ℤ}
use Rattle.std.specs.Prelude.{MatchOption}
use Rattle.cond_ops.specs.Integers.{IsReadAs}
use Rattle.cond_ops.specs.declared.integers.Reading.{Reading}
use Rattle.cond_ops.proofs.integers.read_integer.Goals as goal

pub returns-in-Date : goal.returns-in-Date
returns-in-Date c =
    let text = c.args.text.now in
    subst (λ (r : Reading). MatchOption c.read_moment.result ((z : ℤ) → ¬ (IsReadAs r text z)) (IsReadAs r text)) (sym c.in-Date.is) c.read_moment.ensures
