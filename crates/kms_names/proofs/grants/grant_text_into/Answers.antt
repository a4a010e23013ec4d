-- Hex digits are text.
use Rattle.std.proofs.Common.{◌≡◌, rules}
use Rattle.std.specs.Str.{IsUtf8}
use Rattle.std.proofs.lemmas.Str.{IsUtf8-from_ascii}
use Rattle.hex.specs.Hex.{encode_lower, lower_digits}
use Rattle.hex.proofs.HexLemmas.{IsAscii-encode_with}
use Rattle.kms_names.proofs.AsciiFacts.{IsAscii-lower_digits}
use Rattle.kms_names.proofs.grants.grant_text_into.Goals as goal

pub unwrap-requires : goal.unwrap-requires
unwrap-requires c =
    let written : c.encode_to_slice.new.output ≡ encode_lower c.args.grant.now = search rules in
    let text : IsUtf8 (encode_lower c.args.grant.now) = IsUtf8-from_ascii _ (IsAscii-encode_with lower_digits _ IsAscii-lower_digits) in
    grind (rules, rw (← written) at text, c.from_utf8.ensures.cases)
