-- The operations: how each is named, the fields that it takes, and what it asks by them (AWS KMS API Reference, Actions).
use Rattle.std.specs.Prelude.{ℕ, List, [], ◌∷◌, ◌++◌, codes, map, Option, option_map, find}
use Rattle.std.specs.Str.{bytes_eq}
use Rattle.kms_json.specs.declared.asks.AskBody.{AskBody}
use Rattle.kms_json.specs.declared.asks.AskBody.TheVariants as ask
use Rattle.kms_json.specs.declared.asks.Changing.{Changing}
use Rattle.kms_json.specs.declared.asks.Reading.{Reading}
use Rattle.kms_json.specs.declared.given.Given.{Given}
use Rattle.kms_json.specs.declared.operations.Operation.{Operation}
use Rattle.kms_json.specs.declared.operations.Operation.TheVariants as op
use Rattle.kms_json.specs.declared.operations.Name.{Name}
use Rattle.kms_json.specs.Fields.{FieldRow, key_alone, list_of_key}
use Rattle.kms_json.specs.KeyAsks as keys
use Rattle.kms_json.specs.PolicyAsks as policies
use Rattle.kms_json.specs.StateAsks as states
use Rattle.kms_json.specs.RotationAsks as rotation
use Rattle.kms_json.specs.AliasAsks as aliases
use Rattle.kms_json.specs.GrantAsks as grants
use Rattle.kms_json.specs.CryptographyAsks as cryptography
use Rattle.kms_json.specs.MacAsks as macs
use Rattle.kms_json.specs.TagAsks as tags

-- an operation's name, its fields in the order in which they are judged, and what it asks by what is given to each
pub record Shape : Type 0 where
  pub name : List ℕ
  pub fields : List FieldRow
  pub built : (List ℕ → Given) → AskBody

-- one that changes the account
abbrev pub changes : List ℕ → List FieldRow → ((List ℕ → Given) → Changing) → Shape
changes name fields asks = record { name = name; fields = fields; built = λ at. ask.Change (asks at) }

-- one that reads it
abbrev pub reads : List ℕ → List FieldRow → ((List ℕ → Given) → Reading) → Shape
reads name fields asks = record { name = name; fields = fields; built = λ at. ask.Read (asks at) }

abbrev pub shape_of : Operation → Shape
shape_of op.CreateKey = changes (codes "CreateKey") keys.create_key_fields keys.create_key
shape_of op.DescribeKey = reads (codes "DescribeKey") keys.describe_key_fields keys.describe_key
shape_of op.ListKeys = reads (codes "ListKeys") keys.list_keys_fields keys.list_keys
shape_of op.PutKeyPolicy = changes (codes "PutKeyPolicy") policies.put_key_policy_fields policies.put_key_policy
shape_of op.GetKeyPolicy = reads (codes "GetKeyPolicy") policies.get_key_policy_fields policies.get_key_policy
shape_of op.ListKeyPolicies = reads (codes "ListKeyPolicies") list_of_key policies.list_key_policies
shape_of op.UpdateKeyDescription = changes (codes "UpdateKeyDescription") keys.update_key_description_fields keys.update_key_description
shape_of op.EnableKey = changes (codes "EnableKey") key_alone states.enable_key
shape_of op.DisableKey = changes (codes "DisableKey") key_alone states.disable_key
shape_of op.ScheduleKeyDeletion = changes (codes "ScheduleKeyDeletion") states.schedule_key_deletion_fields states.schedule_key_deletion
shape_of op.CancelKeyDeletion = changes (codes "CancelKeyDeletion") key_alone states.cancel_key_deletion
shape_of op.EnableKeyRotation = changes (codes "EnableKeyRotation") rotation.enable_key_rotation_fields rotation.enable_key_rotation
shape_of op.DisableKeyRotation = changes (codes "DisableKeyRotation") key_alone rotation.disable_key_rotation
shape_of op.RotateKeyOnDemand = changes (codes "RotateKeyOnDemand") key_alone rotation.rotate_key_on_demand
shape_of op.GetKeyRotationStatus = reads (codes "GetKeyRotationStatus") key_alone rotation.get_key_rotation_status
shape_of op.ListKeyRotations = reads (codes "ListKeyRotations") list_of_key rotation.list_key_rotations
shape_of op.CreateAlias = changes (codes "CreateAlias") aliases.put_alias_fields aliases.create_alias
shape_of op.UpdateAlias = changes (codes "UpdateAlias") aliases.put_alias_fields aliases.update_alias
shape_of op.DeleteAlias = changes (codes "DeleteAlias") aliases.delete_alias_fields aliases.delete_alias
shape_of op.ListAliases = reads (codes "ListAliases") aliases.list_aliases_fields aliases.list_aliases
shape_of op.CreateGrant = changes (codes "CreateGrant") grants.create_grant_fields grants.create_grant
shape_of op.RetireGrant = changes (codes "RetireGrant") grants.retire_grant_fields grants.retire_grant
shape_of op.RevokeGrant = changes (codes "RevokeGrant") grants.revoke_grant_fields grants.revoke_grant
shape_of op.ListGrants = reads (codes "ListGrants") grants.list_grants_fields grants.list_grants
shape_of op.ListRetirableGrants = reads (codes "ListRetirableGrants") grants.list_retirable_grants_fields grants.list_retirable_grants
shape_of op.Encrypt = reads (codes "Encrypt") cryptography.encrypt_fields cryptography.encrypt
shape_of op.Decrypt = reads (codes "Decrypt") cryptography.decrypt_fields cryptography.decrypt
shape_of op.ReEncrypt = reads (codes "ReEncrypt") cryptography.re_encrypt_fields cryptography.re_encrypt
shape_of op.GenerateDataKey = reads (codes "GenerateDataKey") cryptography.generate_data_key_fields cryptography.generate_data_key
shape_of op.GenerateDataKeyWithoutPlaintext = reads (codes "GenerateDataKeyWithoutPlaintext") cryptography.generate_data_key_without_plaintext_fields cryptography.generate_data_key_without_plaintext
shape_of op.GenerateRandom = reads (codes "GenerateRandom") cryptography.generate_random_fields cryptography.generate_random
shape_of op.GenerateMac = reads (codes "GenerateMac") macs.generate_mac_fields macs.generate_mac
shape_of op.VerifyMac = reads (codes "VerifyMac") macs.verify_mac_fields macs.verify_mac
shape_of op.TagResource = changes (codes "TagResource") tags.tag_resource_fields tags.tag_resource
shape_of op.UntagResource = changes (codes "UntagResource") tags.untag_resource_fields tags.untag_resource
shape_of op.ListResourceTags = reads (codes "ListResourceTags") tags.list_resource_tags_fields tags.list_resource_tags

abbrev pub fields_of : Operation → List FieldRow
fields_of operation = (shape_of operation).fields

-- an operation with its fields, by what is given to each field
abbrev pub built : Operation → (List ℕ → Given) → AskBody
built operation at = (shape_of operation).built at

abbrev pub all_operations : List Operation
all_operations =
    op.CreateKey ∷ op.DescribeKey ∷ op.ListKeys ∷ op.PutKeyPolicy ∷ op.GetKeyPolicy ∷ op.ListKeyPolicies ∷ op.UpdateKeyDescription ∷ op.EnableKey ∷
    op.DisableKey ∷ op.ScheduleKeyDeletion ∷ op.CancelKeyDeletion ∷ op.EnableKeyRotation ∷ op.DisableKeyRotation ∷ op.RotateKeyOnDemand ∷
    op.GetKeyRotationStatus ∷ op.ListKeyRotations ∷ op.CreateAlias ∷ op.UpdateAlias ∷ op.DeleteAlias ∷ op.ListAliases ∷ op.CreateGrant ∷
    op.RetireGrant ∷ op.RevokeGrant ∷ op.ListGrants ∷ op.ListRetirableGrants ∷ op.Encrypt ∷ op.Decrypt ∷ op.ReEncrypt ∷ op.GenerateDataKey ∷
    op.GenerateDataKeyWithoutPlaintext ∷ op.GenerateRandom ∷ op.GenerateMac ∷ op.VerifyMac ∷ op.TagResource ∷ op.UntagResource ∷ op.ListResourceTags ∷ []

-- a name and its operation
pub record NameRow : Type 0 where
  pub name : List ℕ
  pub operation : Operation

abbrev pub named : Operation → NameRow
named operation = record { name = (shape_of operation).name; operation = operation }

-- a row of the code's table
abbrev pub name_row : Name → NameRow
name_row row = record { name = row.0.now; operation = row.1 }

-- X-Amz-Target is the service's name, a full stop and the operation's name
abbrev pub target_of : List ℕ → List ℕ
target_of name = codes "TrentService." ++ name

abbrev pub operation_in : List NameRow → List ℕ → Option Operation
operation_in rows target = option_map (λ row. row.operation) (find (λ row. bytes_eq target (target_of row.name)) rows)

unfoldable pub operation_named : List ℕ → Option Operation
operation_named target = operation_in (map named all_operations) target
