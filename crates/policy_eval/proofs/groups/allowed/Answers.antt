use Rattle.std.proofs.Common.{◌≡◌, true, false, sym, ◌∙◌, subst}
use Rattle.policy_eval.specs.declared.naming.Naming.{Naming}
use Rattle.policy_eval.specs.Hits.{Hits}
use Rattle.policy_eval.proofs.AllowedFacts.{next_missed, next_hit, some_allows_caller}
use Rattle.policy_eval.proofs.groups.allowed.Goals as goal
use Rattle.policy_eval.proofs.groups.allowed.Goals.{then-hits+else-names, else-hits}

pub returns-then-names : goal.returns-then-names
returns-then-names c =
    let s = c.statement-item.result in
    let loop = c.loop-statement in
    some_allows_caller c.args.facts.now c.args.statements.now loop.statement-index s c.loop-statement-test.true c.statement-item.is loop.account loop.invariant
    (subst (λ (n : Naming). Hits true n s c.args.facts.now) c.sought.ensures (c.hits.ensures.0 c.if-hits.true)) (c.names.ensures.0 c.if-names.true)

pub loop-statement-preserved : goal.loop-statement-preserved
loop-statement-preserved c =
    let s = c.statement-item.result in
    let loop = c.loop-statement in
    elim c.if-hits.branch [
      | then-hits+else-names w ↦
          rw w.account-is
          (next_hit c.args.facts.now c.args.statements.now loop.statement-index s c.loop-statement-test.true c.statement-item.is loop.account loop.invariant
          (subst (λ (n : Naming). Hits true n s c.args.facts.now) c.sought.ensures (c.hits.ensures.0 w.if-hits.true))
          (λ named. let bad : false ≡ true = sym w.if-names.false ∙ w.names.ensures.1 named in cc))
      | else-hits w ↦
          rw w.account-is
          (next_missed c.args.facts.now c.args.statements.now loop.statement-index s c.loop-statement-test.true c.statement-item.is loop.account loop.invariant
          (λ hits. let bad : false ≡ true = sym w.if-hits.false ∙ c.hits.ensures.1 (subst (λ (n : Naming). Hits true n s c.args.facts.now) (sym c.sought.ensures) hits) in cc))
    ]
