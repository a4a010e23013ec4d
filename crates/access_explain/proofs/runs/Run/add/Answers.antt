use Rattle.std.proofs.Common.{rules, ◌≡◌, ◌++◌, ◌∷◌, [], refl}
use Rattle.access_explain.specs.declared.runs.Marked.{Marked}
use Rattle.access_explain.specs.Tests.{IsMarkedBy}
use Rattle.access_explain.proofs.RunFacts.{one_further}
use Rattle.access_explain.proofs.runs.Run.add.Goals as goal

pub loop-statement-preserved : goal.loop-statement-preserved
loop-statement-preserved c = λ before all.
    let marked : Marked = record { allow = c.statement-item.result.allow; mark = c.mark_by.result } in
    let pushed : c.push.new.self.items ≡ c.loop-statement.self-inside.items.items ++ marked ∷ [] = search rules in
    one_further (IsMarkedBy c.args.kind c.args.facts.now) before c.args.statements.now c.loop-statement.statement-index c.statement-item.result c.loop-statement.self-inside.items.items
    c.push.new.self.items marked c.loop-statement-test.true c.statement-item.is pushed (refl, c.mark_by.ensures) (c.loop-statement.invariant before all)
