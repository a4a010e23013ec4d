use Rattle.std.proofs.Common.{◌≡◌, true, false, refl, sym, subst, ◌∙◌, List, ℕ}
use Rattle.std.specs.Prelude.{◌↔◌, Any}
use Rattle.cond_ops.specs.Relation.{RelatesAs}
use Rattle.cond_ops.proofs.RelatedFacts.{first_has, first_has_not, none_has}
use Rattle.cond_ops.proofs.asked.some_packed.Goals as goal

pub loop-policy-init : goal.loop-policy-init
loop-policy-init c =
    let P = RelatesAs c.args.read.now.0 c.args.read.now.1 in
    subst (λ (ts : List (List ℕ)). Any P ts ↔ Any P c.args.texts.now) (sym c.copy-rest.ensures) (λ any. any, λ any. any)

pub returns-then-relates : goal.returns-then-relates
returns-then-relates c =
    let P = RelatesAs c.args.read.now.0 c.args.read.now.1 in (
      λ yes. first_has P (Any P c.args.texts.now) c.in-Some.policy.now c.loop-policy.rest c.in-Some.others c.in-Some.ensures c.loop-policy.invariant (c.relates.ensures.0 c.if-relates.true),
      λ any. refl,
    )

pub loop-policy-preserved : goal.loop-policy-preserved
loop-policy-preserved c =
    let P = RelatesAs c.args.read.now.0 c.args.read.now.1 in
    first_has_not P (Any P c.args.texts.now) c.in-Some.policy.now c.loop-policy.rest c.in-Some.others c.in-Some.ensures c.loop-policy.invariant
    (λ h. let bad : true ≡ false = sym (c.relates.ensures.1 h) ∙ c.if-relates.false in cc)

pub returns : goal.returns
returns c =
    let P = RelatesAs c.args.read.now.0 c.args.read.now.1 in
    (λ yes. cc, λ any. absurd (none_has P (Any P c.args.texts.now) c.loop-policy.rest c.in_default.ensures c.loop-policy.invariant any))
