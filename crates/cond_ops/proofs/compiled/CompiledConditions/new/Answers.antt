use Rattle.std.proofs.Common.{◌≡◌, ◌++◌, ◌∷◌, [], ◌∙◌, List}
use Rattle.cond_ops.specs.declared.heads.ConditionHead.{ConditionHead}
use Rattle.cond_ops.proofs.CompiledFacts.{heads_more, texts_more, all_ready}
use Rattle.cond_ops.proofs.compiled.CompiledConditions.new.Goals as goal

pub loop-condition-init : goal.loop-condition-init
loop-condition-init c = record { heads = c.in_ok-heads.ensures.items; texts = c.in_ok-texts.ensures }

pub loop-condition-preserved : goal.loop-condition-preserved
loop-condition-preserved c =
    let conditions = c.args.conditions.now in
    let i = c.loop-condition.condition-index in
    let condition = c.condition-item.result in
    let within = c.loop-condition-test.true in
    let texts : c.push_all.new.self ≡ (c.loop-condition.texts ++ condition.key ∷ []) ++ condition.values = cc (c.in_ok-push_all.ensures.ok, c.in_ok-push-2.ensures.ok, c.as_str.ensures.value, c.as_slice.ensures) in
    record {
      heads =
          ◌∙◌ {A = List ConditionHead} c.in_ok-push.ensures.items
          (heads_more conditions i condition within c.condition-item.is c.loop-condition.heads.items c.in_ok-of.field-0 c.in_ok-of.ensures c.loop-condition.invariant.heads);
      texts = texts ∙ texts_more conditions i condition within c.condition-item.is c.loop-condition.texts c.loop-condition.invariant.texts;
    }

pub returns : goal.returns
returns c =
    all_ready c.args.conditions.now c.loop-condition.condition-index c.loop-condition.heads.items c.loop-condition.texts c.loop-condition-test.false c.loop-condition.invariant.heads c.loop-condition.invariant.texts
