use Rattle.std.proofs.Common.{◌≡◌, unwrap_or, sym, ap, ◌∙◌, rules}
use denote.Enum.Bare.{differs_true}
use Rattle.hmac_keys.specs.contracts.kinds.KeyKind.{the_type}
use Rattle.hmac_keys.specs.declared.kinds.KindRead.TheVariants.{Kind}
use Rattle.hmac_keys.proofs.KindFacts.{one_spec, specs_differ, usage_differs, all_agree}
use Rattle.hmac_keys.proofs.reading.agreed.Goals as goal

pub returns-then-ne : goal.returns-then-ne
returns-then-ne c =
    let spec_is : c.unwrap_or-one_spec.result ≡ one_spec c.args.master_spec c.args.spec = search rules in
    let other_is : c.unwrap_or.result ≡ unwrap_or c.args.master_spec (one_spec c.args.master_spec c.args.spec) =
    c.unwrap_or.ensures ∙ ap (unwrap_or c.args.master_spec) spec_is in
    specs_differ c.args.usage c.args.master_spec c.args.spec
    (λ same. differs_true the_type _ _ (sym c.ne.ensures ∙ c.if-ne.true) (other_is ∙ same ∙ sym spec_is))

pub returns-then-ne-2 : goal.returns-then-ne-2
returns-then-ne-2 c =
    let spec_is : c.unwrap_or-one_spec.result ≡ one_spec c.args.master_spec c.args.spec = search rules in
    let other_is : c.unwrap_or.result ≡ unwrap_or c.args.master_spec (one_spec c.args.master_spec c.args.spec) =
    c.unwrap_or.ensures ∙ ap (unwrap_or c.args.master_spec) spec_is in
    let same : c.unwrap_or.result ≡ c.unwrap_or-one_spec.result = search rules in
    usage_differs c.args.usage c.args.master_spec c.args.spec (sym other_is ∙ same ∙ spec_is)
    (λ same'.
    differs_true the_type _ _ (sym c.ne-else-ne.ensures ∙ c.if-ne-2.true) (c.unwrap_or-usage.ensures ∙ same' ∙ sym spec_is))

pub returns-else-ne-2 : goal.returns-else-ne-2
returns-else-ne-2 c =
    let spec_is : c.unwrap_or-one_spec.result ≡ one_spec c.args.master_spec c.args.spec = search rules in
    let other_is : c.unwrap_or.result ≡ unwrap_or c.args.master_spec (one_spec c.args.master_spec c.args.spec) =
    c.unwrap_or.ensures ∙ ap (unwrap_or c.args.master_spec) spec_is in
    let same : c.unwrap_or.result ≡ c.unwrap_or-one_spec.result = search rules in
    let same' : c.unwrap_or-usage.result ≡ c.unwrap_or-one_spec.result = search rules in
    ap Kind spec_is
    ∙ all_agree c.args.usage c.args.master_spec c.args.spec (sym other_is ∙ same ∙ spec_is)
    (sym c.unwrap_or-usage.ensures ∙ same' ∙ spec_is)
