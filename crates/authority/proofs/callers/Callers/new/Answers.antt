use Rattle.std.proofs.Common.{ℕ, List, take, sym, ap, ◌∙◌}
use Rattle.std.specs.Prelude.{option_map, string_bytes}
use Rattle.std.specs.Option.{option_or}
use Rattle.std.specs.Str.{bytes_eq}
use Rattle.std.proofs.lemmas.List.{take_all}
use Rattle.kms_names.specs.Principal.{principal_text}
use Rattle.authority.specs.declared.identities.Identity.{Identity}
use Rattle.authority.specs.Setting.{identity_at}
use Rattle.authority.specs.Callers.{kept_at, if_same}
use Rattle.authority.proofs.CallerFacts.{seen_at, push_one, identity_push}
use Rattle.authority.proofs.callers.Callers.new.Goals as goal

pub loop-identity-preserved : goal.loop-identity-preserved
loop-identity-preserved c =
    let item = c.identity-item.result in
    let items = c.as_slice-identity-items.result.now in
    let i = c.loop-identity.identity-index in
    let text = c.as_str.ensures.value ∙ c.in_ok-arn.ensures in
    λ arn.
    c.in_ok-keep.ensures arn
    ∙ ap (λ (t : List ℕ). option_or (kept_at c.loop-identity.by_arn arn) (if_same (bytes_eq t arn) item.policies)) text
    ∙ push_one (bytes_eq (principal_text item.principal) arn) (identity_at (take i items) arn) (kept_at c.loop-identity.by_arn arn) item (c.loop-identity.invariant arn)
    ∙ sym (ap (λ o. option_map (λ (identity : Identity). identity.policies) o) (identity_push items i item arn c.loop-identity-test.true c.identity-item.is))

pub returns : goal.returns
returns c =
    let items = c.as_slice-identity-items.result.now in
    let i = c.loop-identity.identity-index in
    λ arn.
    seen_at string_bytes (λ v. v.items) c.loop-identity.by_arn.entries arn
    ∙ c.loop-identity.invariant arn
    ∙ ap (λ (l : List Identity). option_map (λ (identity : Identity). identity.policies) (identity_at l arn)) (take_all i items c.loop-identity-test.false ∙ c.as_slice-identity-items.ensures)
