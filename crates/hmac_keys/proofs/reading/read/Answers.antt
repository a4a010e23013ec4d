use Rattle.std.proofs.Common.{◌≡◌, Err, sym, ap, ◌∙◌, rules}
use Rattle.hmac_keys.specs.declared.kinds.KindField.TheVariants.{KeyUsage, CustomerMasterKeySpec, KeySpec}
use Rattle.hmac_keys.specs.Asked.{answer_of}
use Rattle.hmac_keys.proofs.KindFacts.{is_known, usage_refused, master_refused, spec_refused}
use Rattle.hmac_keys.proofs.reading.read.Goals as goal

pub returns-in_err-usage : goal.returns-in_err-usage
returns-in_err-usage c =
    let e : c.from_residual.result ≡ Err KeyUsage = search rules in
    ap answer_of e ∙ sym (usage_refused _ _ _ c.in_err-usage.ensures.unknown)

pub returns-in_err-master_spec : goal.returns-in_err-master_spec
returns-in_err-master_spec c =
    let e : c.from_residual-in_err-master_spec.result ≡ Err CustomerMasterKeySpec = search rules in
    ap answer_of e ∙ sym (master_refused _ _ _ (is_known KeyUsage _ _ c.in_ok-usage.ensures.named) c.in_err-master_spec.ensures.unknown)

pub returns-in_err-spec : goal.returns-in_err-spec
returns-in_err-spec c =
    let e : c.from_residual-in_err-spec.result ≡ Err KeySpec = search rules in
    ap answer_of e
    ∙ sym (spec_refused _ _ _ (is_known KeyUsage _ _ c.in_ok-usage.ensures.named)
    (is_known CustomerMasterKeySpec _ _ c.in_ok-master_spec.ensures.named) c.in_err-spec.ensures.unknown)
