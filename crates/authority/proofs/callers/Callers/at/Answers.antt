use Rattle.std.proofs.Common.{ℕ, List, Some, sym, ap, ◌∙◌}
use Rattle.std.specs.Prelude.{option_map, string_bytes}
use Rattle.policy_doc.specs.declared.policies.Policy.{Policy}
use Rattle.authority.specs.Callers.{policies_at}
use Rattle.authority.proofs.CallerFacts.{seen_at}
use Rattle.authority.proofs.callers.Callers.at.Goals as goal

pub returns-in-Some : goal.returns-in-Some
returns-in-Some c =
    ap Some c.as_slice.ensures.value ∙ ap (λ o. option_map (λ v. v.items) o) c.in-Some.ensures.value
    ∙ sym (seen_at string_bytes (λ v. v.items) c.self.inside.by_arn.entries c.args.arn.now)
    ∙ ap (λ (seen : List (List ℕ × List Policy)). policies_at seen c.args.arn.now) c.self.view_is

pub returns-in-None : goal.returns-in-None
returns-in-None c =
    ap (λ o. option_map (λ v. v.items) o) c.in-None.ensures.value
    ∙ sym (seen_at string_bytes (λ v. v.items) c.self.inside.by_arn.entries c.args.arn.now)
    ∙ ap (λ (seen : List (List ℕ × List Policy)). policies_at seen c.args.arn.now) c.self.view_is
