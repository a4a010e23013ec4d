use Rattle.std.proofs.Common.{[], subst, sym}
use Rattle.access_explain.specs.Tests.{IsRunOf}
use Rattle.access_explain.proofs.runs.Run.of.Goals as goal

pub returns : goal.returns
returns c = c.in_ok-add.ensures [] (subst (λ run. IsRunOf c.args.kind c.args.facts.now [] run) (sym c.new-run.ensures) tt)
