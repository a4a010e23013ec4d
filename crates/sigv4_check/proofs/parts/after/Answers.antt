use Rattle.std.proofs.Common.{◌≡◌, ◌∙◌, ◌+◌, length, take, drop, Bool, true, false, cond, Some, None, sym, ap, nat_eq}
use Rattle.std.specs.Prelude.{option_map, MatchOption}
use Rattle.std.specs.Cmp.Lexicographic.{pointwise}
use Rattle.kms_names.specs.Reading.{after_front}
use Rattle.sigv4_check.proofs.Cuts.{after_front_is}
use Rattle.sigv4_check.proofs.parts.after.Goals as goal

pub returns : goal.returns
returns c =
    let is = after_front_is c.args.front.now c.args.text.now in
    elim c.strip_prefix.result as (λ r. (MatchOption r (pointwise nat_eq (take (length c.args.front.now) c.args.text.now) c.args.front.now ≡ false) (λ x. (pointwise nat_eq (take (length c.args.front.now) c.args.text.now) c.args.front.now ≡ true) × (x.now ≡ drop (length c.args.front.now) c.args.text.now) × (length x.now + length c.args.front.now ≡ length c.args.text.now))) → option_map (λ rest. rest.now) r ≡ after_front c.args.front.now c.args.text.now) [
      | None ↦ λ h. sym (is ∙ ap (λ (b : Bool). cond b (Some (drop (length c.args.front.now) c.args.text.now)) None) h)
      | Some x ↦ λ h. ap Some h.1 ∙ sym (is ∙ ap (λ (b : Bool). cond b (Some (drop (length c.args.front.now) c.args.text.now)) None) h.0)
    ] c.strip_prefix.ensures.cases
