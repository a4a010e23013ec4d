use Rattle.std.proofs.Common.{◌≡◌, ℕ, true, false, cond, List, Some, None, sym, ap, subst, ◌∙◌}
use Rattle.std.specs.Prelude.{string_bytes, option_map}
use Rattle.std.specs.Str.{bytes_eq}
use Rattle.std.specs.HashMap.{get_by_text}
use Rattle.std.proofs.lemmas.Map.Text.{hash_map_updates_text}
use Rattle.std.proofs.lemmas.Slice.Eq.{bytes_eq-Decides}
use Rattle.authority.specs.Callers.{kept_at}
use Rattle.authority.proofs.CallerFacts.{kept_already, kept_now, copied_some, not_none, is_none, map_cond}
use Rattle.authority.proofs.callers.keep.Goals as goal

pub returns-then-is_some : goal.returns-then-is_some
returns-then-is_some c =
    let map = c.args.by_arn.now in
    let arn : List ℕ = c.args.arn.now in
    let there = not_none (λ v. v.items) (get_by_text map arn) (copied_some c.get.result (get_by_text map arn) true c.get.ensures.value (sym c.if-is_some.ensures)) in
    λ other. kept_already (bytes_eq arn other) (kept_at map other) c.args.policies.now
    (λ same none. there (subst (λ (t : List ℕ). kept_at map t ≡ None) (sym ((bytes_eq-Decides arn other).0 same)) none))

pub returns : goal.returns
returns c =
    let map = c.args.by_arn.now in
    let arn : List ℕ = c.args.arn.now in
    let key = c.in_ok-key.key in
    let nothing = is_none (λ v. v.items) (get_by_text map arn) (copied_some c.get.result (get_by_text map arn) false c.get.ensures.value (sym c.if-is_some.ensures)) in
    λ other.
    ap (λ o. option_map (λ v. v.items) o) (hash_map_updates_text (string_bytes key) map c.insert.new.self (Some c.in_ok-policies.policies) c.in_ok-insert.ensures.updates other)
    ∙ map_cond (λ v. v.items) (bytes_eq (string_bytes key) other) c.in_ok-policies.policies (get_by_text map other)
    ∙ (λ i. cond (bytes_eq (c.in_ok-key.ensures.ok i) other) (Some (c.in_ok-policies.ensures i)) (kept_at map other))
    ∙ kept_now (bytes_eq arn other) (kept_at map other) c.args.policies.now
    (λ same. subst (λ (t : List ℕ). kept_at map t ≡ None) ((bytes_eq-Decides arn other).0 same) nothing)
