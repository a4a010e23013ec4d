use Rattle.std.proofs.Common.{◌≡◌, ◌==◌, List, ℕ, [], true, false, length, ap, sym, subst, ◌∙◌}
use Rattle.std.specs.Prelude.{◌↔◌, IsTrue}
use Rattle.cond_ops.specs.declared.conditions.Condition.{Condition}
use Rattle.cond_ops.specs.declared.heads.ConditionHead.{ConditionHead}
use Rattle.cond_ops.proofs.CompiledFacts.{none_by_heads, none_by_texts}
use Rattle.cond_ops.proofs.compiled.CompiledConditions.is_empty.Goals as goal

pub returns-then-is_empty : goal.returns-then-is_empty
returns-then-is_empty c =
    let none : (length c.self.inside.heads.items == 0) ≡ true =
    sym (ap (λ (hs : List ConditionHead). length hs == 0) c.as_slice.ensures.value) ∙ sym c.is_empty.ensures ∙ c.if-is_empty.true in
    (λ yes. sym c.self.view_is ∙ none_by_heads c.self.inside.heads.items c.self.inside.texts none, λ empty. c.if-is_empty.true)

pub returns-else-is_empty : goal.returns-else-is_empty
returns-else-is_empty c =
    let some : (length c.self.inside.heads.items == 0) ≡ false =
    sym (ap (λ (hs : List ConditionHead). length hs == 0) c.as_slice.ensures.value) ∙ sym c.is_empty.ensures ∙ c.if-is_empty.false in
    subst (λ (cs : List Condition). IsTrue c.is_empty-else-is_empty.result ↔ (cs ≡ [])) c.self.view_is
    (none_by_texts c.self.inside.heads.items c.self.inside.texts c.is_empty-else-is_empty.result some
    (c.is_empty-else-is_empty.ensures ∙ ap (λ (ts : List (List ℕ)). length ts == 0) c.all.ensures))
