use Rattle.std.proofs.Common.{◌≡◌, true, false, List, drop, refl, sym, subst, ap, ◌∙◌, ◌∷◌, ◌+◌}
use Rattle.std.specs.Prelude.{◌↔◌, All}
use Rattle.std.proofs.lemmas.List.{drop_all}
use Rattle.cond_ops.specs.Asked.{condition_of}
use Rattle.cond_ops.specs.Compiled.{conditions_of}
use Rattle.cond_ops.specs.Holds.{Holds, HoldsOf}
use Rattle.cond_ops.specs.declared.conditions.Condition.{Condition}
use Rattle.cond_ops.specs.declared.heads.ConditionHead.{ConditionHead}
use Rattle.cond_ops.proofs.CompiledFacts.{next_asked, none_asked, hold_next, hold_not, hold_all}
use Rattle.cond_ops.proofs.compiled.CompiledConditions.all_hold.Goals as goal

pub loop-head-init : goal.loop-head-init
loop-head-init c =
    let e : conditions_of c.deref-head-items.result.now c.all-texts.result ≡ c.args.self.now =
    ap (λ (hs : List ConditionHead). conditions_of hs c.all-texts.result) c.deref-head-items.ensures.value ∙ ap (conditions_of c.self.inside.heads.items) c.all-texts.ensures ∙ c.self.view_is in
    subst (λ (cs : List Condition). All (λ (condition : Condition). Holds condition c.args.facts.now) cs ↔ All (λ (condition : Condition). Holds condition c.args.facts.now) c.args.self.now) (sym e)
    (λ all. all, λ all. all)

pub returns-in_default : goal.returns-in_default
returns-in_default c =
    let left = drop c.loop-head.head-index c.deref-head-items.result.now in
    let P = λ (condition : Condition). Holds condition c.args.facts.now in
    (λ yes. hold_all P (All P c.args.self.now) (conditions_of left c.loop-head.texts) (ap (conditions_of left) c.in_default.ensures ∙ none_asked left) c.loop-head.invariant, λ all. refl)

pub returns-then-not-holds : goal.returns-then-not-holds
unfolding Holds
returns-then-not-holds c =
    let items = c.deref-head-items.result.now in
    let i = c.loop-head.head-index in
    let asked = condition_of c.asked-asked.result in
    let P = λ (condition : Condition). Holds condition c.args.facts.now in
    let next : conditions_of (drop i items) c.loop-head.texts ≡ asked ∷ conditions_of (drop (i + 1) items) c.split_at-values.result.1 =
    next_asked items i _ c.loop-head.texts c.in-Some.others c.in-Some.key.now c.split_at-values.result.0 c.split_at-values.result.1 asked
    c.loop-head-test.true c.in-Some.ensures c.split_at-values.ensures.first c.split_at-values.ensures.behind c.asked-asked.ensures in
    let fails : ¬ (Holds asked c.args.facts.now) =
    λ holds. let bad : c.holds.result ≡ true = c.holds.ensures.1 (subst (HoldsOf asked) (sym c.as_slice.ensures) holds) in let worse : true ≡ false = sym bad ∙ c.if-not-holds.true in cc in
    (λ yes. cc, λ all. absurd (hold_not P (All P c.args.self.now) (conditions_of (drop i items) c.loop-head.texts) (conditions_of (drop (i + 1) items) c.split_at-values.result.1) asked next fails c.loop-head.invariant all))

pub loop-head-preserved : goal.loop-head-preserved
unfolding Holds
loop-head-preserved c =
    let items = c.deref-head-items.result.now in
    let i = c.loop-head.head-index in
    let asked = condition_of c.asked-asked.result in
    let P = λ (condition : Condition). Holds condition c.args.facts.now in
    let next : conditions_of (drop i items) c.loop-head.texts ≡ asked ∷ conditions_of (drop (i + 1) items) c.split_at-values.result.1 =
    next_asked items i _ c.loop-head.texts c.in-Some.others c.in-Some.key.now c.split_at-values.result.0 c.split_at-values.result.1 asked
    c.loop-head-test.true c.in-Some.ensures c.split_at-values.ensures.first c.split_at-values.ensures.behind c.asked-asked.ensures in
    let here : Holds asked c.args.facts.now = subst (HoldsOf asked) c.as_slice.ensures (c.holds.ensures.0 c.if-not-holds.false) in
    hold_next P (All P c.args.self.now) (conditions_of (drop i items) c.loop-head.texts) (conditions_of (drop (i + 1) items) c.split_at-values.result.1) asked next here c.loop-head.invariant

pub returns : goal.returns
returns c =
    let P = λ (condition : Condition). Holds condition c.args.facts.now in (
      λ yes. hold_all P (All P c.args.self.now) (conditions_of (drop c.loop-head.head-index c.deref-head-items.result.now) c.loop-head.texts)
          (ap (λ (hs : List ConditionHead). conditions_of hs c.loop-head.texts) (drop_all c.loop-head.head-index c.deref-head-items.result.now c.loop-head-test.false)) c.loop-head.invariant,
      λ all. refl,
    )
