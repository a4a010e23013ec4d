use Rattle.std.proofs.Common.{Some, sym, ap, ◌∙◌}
use Rattle.std.specs.Prelude.{option_map}
use Rattle.hex.specs.Hex.{encode_lower}
use Rattle.account_tags.specs.Pages.{marker_of}
use Rattle.account_tags.proofs.PageFacts.{last_is}
use Rattle.account_tags.proofs.pages.marker_of_last.Goals as goal

pub returns-in_ok-digits-in-Some : goal.returns-in_ok-digits-in-Some
returns-in_ok-digits-in-Some c =
    let last = last_is c.args.tags.now c.in-Some.tag.now (sym c.in-Some.ensures.value) in
    ap Some (c.from_string.ensures ∙ c.in_ok-digits-in-Some.ensures ∙ ap encode_lower (c.as_bytes.ensures.value ∙ c.as_str.ensures.value)) ∙ sym (ap (option_map marker_of) last)
