-- What the operations on keys answer, with members in byte order of their names (AWS KMS API Reference, KeyMetadata and ListKeys).
use Rattle.std.specs.Prelude.{ℕ, List, codes, false, Option, Some, None, option_map}
use Rattle.uuid.specs.Text.{hyphenated_text, lower}
use Rattle.kms_names.specs.Reference.{key_arn_text}
use Rattle.hmac_keys.specs.Kind.{usage_text, spec_text}
use Rattle.hmac_keys.specs.declared.kinds.KeyKind.{KeyKind}
use Rattle.hmac_keys.specs.declared.kinds.KeyKind.TheVariants.{Symmetric, Hmac256}
use Rattle.serde_json.specs.Data.{Data, object, member, no_members, boolean}
use Rattle.kms_json.specs.declared.replies.KeyMetadata.{KeyMetadata}
use Rattle.kms_json.specs.declared.replies.lists.KeyPage.{KeyPage}
use Rattle.kms_json.specs.Objects.{symmetric_default, hmac_sha_256, with_text, with_any, number_data, one_text, list_data}
use Rattle.kms_json.specs.PageReplies.{page_data}
use Rattle.kms_json.specs.States.{state_name, is_enabled, deletion_date}

-- the algorithm by which keys of a kind encrypt, where they do
abbrev pub encryption_algorithm : KeyKind → Option (List ℕ)
encryption_algorithm Symmetric = Some symmetric_default
encryption_algorithm Hmac256 = None

-- the one by which they make MACs, where they do
abbrev pub mac_algorithm : KeyKind → Option (List ℕ)
mac_algorithm Symmetric = None
mac_algorithm Hmac256 = Some hmac_sha_256

-- a key of this account, ARN and printed id
abbrev pub described_as : List ℕ → List ℕ → KeyMetadata → List ℕ → Data
described_as account arn key id = object
    (with_text (codes "AWSAccountId") account
    (with_text (codes "Arn") arn
    (member (codes "CreationDate") (number_data key.created)
    (with_text (codes "CustomerMasterKeySpec") (spec_text key.kind)
    (with_any (codes "DeletionDate") (option_map number_data (deletion_date key.state))
    (with_text (codes "Description") key.description
    (member (codes "Enabled") (boolean (is_enabled key.state))
    (with_any (codes "EncryptionAlgorithms") (option_map one_text (encryption_algorithm key.kind))
    (with_text (codes "KeyId") id
    (with_text (codes "KeyManager") (codes "CUSTOMER")
    (with_text (codes "KeySpec") (spec_text key.kind)
    (with_text (codes "KeyState") (state_name key.state)
    (with_text (codes "KeyUsage") (usage_text key.kind)
    (with_any (codes "MacAlgorithms") (option_map one_text (mac_algorithm key.kind))
    (member (codes "MultiRegion") (boolean false)
    (with_text (codes "Origin") (codes "AWS_KMS") no_members))))))))))))))))

abbrev pub metadata : KeyMetadata → Data
metadata key = described_as key.account (key_arn_text key.account key.region key.key) key (hyphenated_text lower key.key)

abbrev pub metadata_data : KeyMetadata → Data
metadata_data key = object (member (codes "KeyMetadata") (metadata key) no_members)

-- a key by its ARN and its printed id
abbrev pub key_by : List ℕ → List ℕ → Data
key_by arn id = object (with_text (codes "KeyArn") arn (with_text (codes "KeyId") id no_members))

abbrev pub key_data : List ℕ → List ℕ → List ℕ → Data
key_data account region key = key_by (key_arn_text account region key) (hyphenated_text lower key)

abbrev pub keys_data : KeyPage → Data
keys_data page = page_data (codes "Keys") (list_data (key_data page.account page.region) page.keys) page.next
