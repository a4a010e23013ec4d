-- The fields of the operations on keys, in the order in which they are judged, and what each asks by what is given to them (AWS KMS API Reference, CreateKey, UpdateKeyDescription, DescribeKey and ListKeys).
use Rattle.std.specs.Prelude.{List, [], ◌∷◌, codes, ℕ}
use Rattle.kms_json.specs.declared.fields.Kind.TheVariants.{Text, SomeText, AnyText, Flag, Tags}
use Rattle.kms_json.specs.declared.given.Given.{Given}
use Rattle.kms_json.specs.declared.asks.Changing.{Changing}
use Rattle.kms_json.specs.declared.asks.Changing.TheVariants as changing
use Rattle.kms_json.specs.declared.asks.Reading.{Reading}
use Rattle.kms_json.specs.declared.asks.Reading.TheVariants as reading
use Rattle.kms_json.specs.Given.{is_there, text_if, text_in, texts_in, flag_in, tags_in}
use Rattle.kms_json.specs.Fields.{FieldRow, always, maybe, field, grant_tokens, key_reference, page_of}
use Rattle.kms_json.specs.PageAsks.{page}

abbrev pub create_key_fields : List FieldRow
create_key_fields =
    field (codes "Policy") SomeText maybe ∷
    field (codes "Description") (Text 0 8192) maybe ∷
    field (codes "KeyUsage") AnyText maybe ∷
    field (codes "CustomerMasterKeySpec") AnyText maybe ∷
    field (codes "KeySpec") AnyText maybe ∷
    field (codes "Origin") AnyText maybe ∷
    field (codes "CustomKeyStoreId") AnyText maybe ∷
    field (codes "BypassPolicyLockoutSafetyCheck") Flag maybe ∷
    field (codes "Tags") Tags maybe ∷
    field (codes "MultiRegion") Flag maybe ∷
    field (codes "XksKeyId") AnyText maybe ∷ []

abbrev pub update_key_description_fields : List FieldRow
update_key_description_fields =
    key_reference (codes "KeyId") always ∷
    field (codes "Description") (Text 0 8192) always ∷ []

abbrev pub describe_key_fields : List FieldRow
describe_key_fields =
    key_reference (codes "KeyId") always ∷
    grant_tokens ∷ []

abbrev pub list_keys_fields : List FieldRow
list_keys_fields = page_of 1000

abbrev pub create_key : (List ℕ → Given) → Changing
create_key at = changing.CreateKey record {
  policy = text_if (at (codes "Policy"));
  description = text_in (at (codes "Description"));
  key_usage = text_if (at (codes "KeyUsage"));
  customer_master_key_spec = text_if (at (codes "CustomerMasterKeySpec"));
  key_spec = text_if (at (codes "KeySpec"));
  origin = text_if (at (codes "Origin"));
  custom_key_store_id = is_there (at (codes "CustomKeyStoreId"));
  bypass_lockout_check = flag_in (at (codes "BypassPolicyLockoutSafetyCheck"));
  tags = tags_in (at (codes "Tags"));
  multi_region = flag_in (at (codes "MultiRegion"));
  xks_key_id = is_there (at (codes "XksKeyId"));
}

abbrev pub update_key_description : (List ℕ → Given) → Changing
update_key_description at = changing.UpdateKeyDescription (text_in (at (codes "KeyId"))) (text_in (at (codes "Description")))

abbrev pub describe_key : (List ℕ → Given) → Reading
describe_key at = reading.DescribeKey (text_in (at (codes "KeyId"))) (texts_in (at (codes "GrantTokens")))

abbrev pub list_keys : (List ℕ → Given) → Reading
list_keys at = reading.ListKeys (page 100 at)
