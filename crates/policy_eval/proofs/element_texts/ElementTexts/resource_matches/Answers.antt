use Rattle.std.proofs.Common.{◌≡◌, ℕ, List, not, take, ◌∙◌, ap, subst}
use Rattle.std.specs.Prelude.{◌↔◌, IsTrue, Any}
use Rattle.cond_ops.specs.Relation.{IsLike}
use Rattle.policy_eval.specs.Elements.{Elements}
use Rattle.policy_eval.specs.ElementTexts.{parted}
use Rattle.policy_eval.specs.Matching.{ElementMatches}
use Rattle.policy_eval.proofs.MatchingFacts.{by_not_form, some_given}
use Rattle.policy_eval.proofs.element_texts.ElementTexts.resource_matches.Goals as goal

pub returns-else-is_empty : goal.returns-else-is_empty
returns-else-is_empty c =
    let kept = c.self.inside in
    let asked : List ℕ → Type 0 = IsLike c.args.resource.now in
    let nots : List (List ℕ) = take kept.not_resource_count kept.texts in
    let same : c.first-not_resources.result ≡ nots = c.first-not_resources.ensures ∙ ap (take kept.not_resource_count) c.all-all.ensures in
    subst (λ (e : Elements). IsTrue (not c.some_matches-else-is_empty.result) ↔ ElementMatches (IsLike c.args.resource.now) e.resources e.not_resources) c.self.view_is
    (by_not_form (IsLike c.args.resource.now) (parted kept).resources nots (some_given nots c.first-not_resources.result c.is_empty.result same c.is_empty.ensures c.if-is_empty.false)
    c.some_matches-else-is_empty.result
    (subst (λ (xs : List (List ℕ)). IsTrue c.some_matches-else-is_empty.result ↔ Any (IsLike c.args.resource.now) xs) same c.some_matches-else-is_empty.ensures))
