-- The fields of the operations on MACs, in the order in which they are judged, and what each asks by what is given to them (AWS KMS API Reference, GenerateMac and VerifyMac).
use Rattle.std.specs.Prelude.{List, [], ◌∷◌, codes, ℕ}
use Rattle.kms_json.specs.declared.fields.Kind.TheVariants.{AnyText, Bytes, Flag}
use Rattle.kms_json.specs.declared.given.Given.{Given}
use Rattle.kms_json.specs.declared.asks.Reading.{Reading}
use Rattle.kms_json.specs.declared.asks.Reading.TheVariants as reading
use Rattle.kms_json.specs.Given.{text_in, texts_in, bytes_in, flag_in}
use Rattle.kms_json.specs.Fields.{FieldRow, always, maybe, field, grant_tokens, key_reference}

abbrev pub generate_mac_fields : List FieldRow
generate_mac_fields =
    field (codes "Message") (Bytes 1 4096) always ∷
    key_reference (codes "KeyId") always ∷
    field (codes "MacAlgorithm") AnyText always ∷
    grant_tokens ∷
    field (codes "DryRun") Flag maybe ∷ []

abbrev pub verify_mac_fields : List FieldRow
verify_mac_fields =
    field (codes "Message") (Bytes 1 4096) always ∷
    key_reference (codes "KeyId") always ∷
    field (codes "MacAlgorithm") AnyText always ∷
    field (codes "Mac") (Bytes 1 6144) always ∷
    grant_tokens ∷
    field (codes "DryRun") Flag maybe ∷ []

abbrev pub generate_mac : (List ℕ → Given) → Reading
generate_mac at = reading.GenerateMac record {
  message = bytes_in (at (codes "Message"));
  key_id = text_in (at (codes "KeyId"));
  algorithm = text_in (at (codes "MacAlgorithm"));
  grant_tokens = texts_in (at (codes "GrantTokens"));
  dry_run = flag_in (at (codes "DryRun"));
}

abbrev pub verify_mac : (List ℕ → Given) → Reading
verify_mac at = reading.VerifyMac record {
  message = bytes_in (at (codes "Message"));
  key_id = text_in (at (codes "KeyId"));
  algorithm = text_in (at (codes "MacAlgorithm"));
  mac = bytes_in (at (codes "Mac"));
  grant_tokens = texts_in (at (codes "GrantTokens"));
  dry_run = flag_in (at (codes "DryRun"));
}
