-- The fields of the operations that use keys, in the order in which they are judged, and what each asks by what is given to them (AWS KMS API Reference, Encrypt, Decrypt, ReEncrypt and the Generate operations).
use Rattle.std.specs.Prelude.{List, [], ◌∷◌, codes, ℕ, if◌then◌else◌}
use Rattle.std.specs.Str.{bytes_eq}
use Rattle.kms_json.specs.declared.fields.Kind.TheVariants.{AnyText, DataKeySpec, Bytes, Context, Whole, Flag, Object}
use Rattle.kms_json.specs.declared.given.Given.{Given}
use Rattle.kms_json.specs.declared.asks.cryptography.DataKey.{DataKey}
use Rattle.kms_json.specs.declared.asks.Reading.{Reading}
use Rattle.kms_json.specs.declared.asks.Reading.TheVariants as reading
use Rattle.kms_json.specs.Given.{is_absent, is_there, text_if, text_in, texts_in, bytes_in, pairs_in, number_in, flag_in}
use Rattle.kms_json.specs.Fields.{FieldRow, always, maybe, instead_of, field, grant_tokens, key_reference}

abbrev pub encrypt_fields : List FieldRow
encrypt_fields =
    key_reference (codes "KeyId") always ∷
    field (codes "Plaintext") (Bytes 1 4096) always ∷
    field (codes "EncryptionContext") Context maybe ∷
    grant_tokens ∷
    field (codes "EncryptionAlgorithm") AnyText maybe ∷
    field (codes "DryRun") Flag maybe ∷ []

abbrev pub decrypt_fields : List FieldRow
decrypt_fields =
    field (codes "CiphertextBlob") (Bytes 1 6144) always ∷
    field (codes "EncryptionContext") Context maybe ∷
    grant_tokens ∷
    key_reference (codes "KeyId") maybe ∷
    field (codes "EncryptionAlgorithm") AnyText maybe ∷
    field (codes "Recipient") Object maybe ∷
    field (codes "DryRun") Flag maybe ∷ []

abbrev pub re_encrypt_fields : List FieldRow
re_encrypt_fields =
    field (codes "CiphertextBlob") (Bytes 1 6144) always ∷
    field (codes "SourceEncryptionContext") Context maybe ∷
    key_reference (codes "SourceKeyId") maybe ∷
    key_reference (codes "DestinationKeyId") always ∷
    field (codes "DestinationEncryptionContext") Context maybe ∷
    field (codes "SourceEncryptionAlgorithm") AnyText maybe ∷
    field (codes "DestinationEncryptionAlgorithm") AnyText maybe ∷
    grant_tokens ∷
    field (codes "DryRun") Flag maybe ∷ []

abbrev pub generate_data_key_fields : List FieldRow
generate_data_key_fields =
    key_reference (codes "KeyId") always ∷
    field (codes "EncryptionContext") Context maybe ∷
    field (codes "NumberOfBytes") (Whole 1 1024) (instead_of (codes "KeySpec")) ∷
    field (codes "KeySpec") DataKeySpec maybe ∷
    grant_tokens ∷
    field (codes "Recipient") Object maybe ∷
    field (codes "DryRun") Flag maybe ∷ []

abbrev pub generate_data_key_without_plaintext_fields : List FieldRow
generate_data_key_without_plaintext_fields =
    key_reference (codes "KeyId") always ∷
    field (codes "EncryptionContext") Context maybe ∷
    field (codes "KeySpec") DataKeySpec maybe ∷
    field (codes "NumberOfBytes") (Whole 1 1024) (instead_of (codes "KeySpec")) ∷
    grant_tokens ∷
    field (codes "DryRun") Flag maybe ∷ []

abbrev pub generate_random_fields : List FieldRow
generate_random_fields =
    field (codes "NumberOfBytes") (Whole 1 1024) always ∷
    field (codes "CustomKeyStoreId") AnyText maybe ∷
    field (codes "Recipient") Object maybe ∷ []

abbrev pub encrypt : (List ℕ → Given) → Reading
encrypt at = reading.Encrypt record {
  key_id = text_in (at (codes "KeyId"));
  plaintext = bytes_in (at (codes "Plaintext"));
  context = pairs_in (at (codes "EncryptionContext"));
  grant_tokens = texts_in (at (codes "GrantTokens"));
  algorithm = text_if (at (codes "EncryptionAlgorithm"));
  dry_run = flag_in (at (codes "DryRun"));
}

abbrev pub decrypt : (List ℕ → Given) → Reading
decrypt at = reading.Decrypt record {
  blob = bytes_in (at (codes "CiphertextBlob"));
  context = pairs_in (at (codes "EncryptionContext"));
  grant_tokens = texts_in (at (codes "GrantTokens"));
  key_id = text_if (at (codes "KeyId"));
  algorithm = text_if (at (codes "EncryptionAlgorithm"));
  recipient = is_there (at (codes "Recipient"));
  dry_run = flag_in (at (codes "DryRun"));
}

abbrev pub re_encrypt : (List ℕ → Given) → Reading
re_encrypt at = reading.ReEncrypt record {
  blob = bytes_in (at (codes "CiphertextBlob"));
  source_context = pairs_in (at (codes "SourceEncryptionContext"));
  source_key_id = text_if (at (codes "SourceKeyId"));
  key_id = text_in (at (codes "DestinationKeyId"));
  context = pairs_in (at (codes "DestinationEncryptionContext"));
  source_algorithm = text_if (at (codes "SourceEncryptionAlgorithm"));
  algorithm = text_if (at (codes "DestinationEncryptionAlgorithm"));
  grant_tokens = texts_in (at (codes "GrantTokens"));
  dry_run = flag_in (at (codes "DryRun"));
}

-- the size in bytes of a data key of this spec
abbrev pub spec_size : List ℕ → ℕ
spec_size name = if bytes_eq name (codes "AES_256") then 32 else 16

-- the size of a data key by its spec, where that is given, or by its number of bytes
abbrev pub data_key_size : Given → Given → ℕ
data_key_size spec number = if is_absent spec then number_in number else spec_size (text_in spec)

abbrev pub data_key : (List ℕ → Given) → DataKey
data_key at = record {
  key_id = text_in (at (codes "KeyId"));
  context = pairs_in (at (codes "EncryptionContext"));
  size = data_key_size (at (codes "KeySpec")) (at (codes "NumberOfBytes"));
  grant_tokens = texts_in (at (codes "GrantTokens"));
  dry_run = flag_in (at (codes "DryRun"));
}

abbrev pub generate_data_key : (List ℕ → Given) → Reading
generate_data_key at = reading.GenerateDataKey (data_key at) (is_there (at (codes "Recipient")))

abbrev pub generate_data_key_without_plaintext : (List ℕ → Given) → Reading
generate_data_key_without_plaintext at = reading.GenerateDataKeyWithoutPlaintext (data_key at)

abbrev pub generate_random : (List ℕ → Given) → Reading
generate_random at = reading.GenerateRandom (number_in (at (codes "NumberOfBytes"))) (is_there (at (codes "CustomKeyStoreId"))) (is_there (at (codes "Recipient")))
