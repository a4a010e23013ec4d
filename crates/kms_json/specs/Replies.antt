-- The status and the body of a reply (AWS KMS API Reference, response elements and errors).
use Rattle.std.specs.Prelude.{ℕ}
use Rattle.serde_json.specs.Data.{Data, object, no_members}
use Rattle.kms_json.specs.declared.replies.Reply.{Reply}
use Rattle.kms_json.specs.declared.replies.Reply.TheVariants as reply
use Rattle.kms_json.specs.Objects.{base64_text}
use Rattle.kms_json.specs.Exceptions.{refusal_status, refusal_data}
use Rattle.kms_json.specs.KeyReplies as keys
use Rattle.kms_json.specs.PolicyReplies as policies
use Rattle.kms_json.specs.StateReplies as states
use Rattle.kms_json.specs.RotationReplies as rotation
use Rattle.kms_json.specs.AliasReplies as aliases
use Rattle.kms_json.specs.GrantReplies as grants
use Rattle.kms_json.specs.CryptographyReplies as cryptography
use Rattle.kms_json.specs.MacReplies as macs
use Rattle.kms_json.specs.TagReplies as tags

-- what is served has the status 200
abbrev pub status_of : Reply → ℕ
status_of (reply.Refused refusal) = refusal_status refusal
status_of _ = 200

-- the body's JSON value
abbrev pub reply_data : Reply → Data
reply_data (reply.Metadata key) = keys.metadata_data key
reply_data (reply.KeyPolicy policy) = policies.key_policy_data policy
reply_data (reply.DeletionScheduled arn deletion_date days) = states.deletion_data arn deletion_date days
reply_data (reply.DeletionCancelled arn) = states.cancelled_data arn
reply_data (reply.Rotated key) = rotation.rotated_data key
reply_data (reply.RotationStatus key status) = rotation.rotation_data key status
reply_data (reply.Keys page) = keys.keys_data page
reply_data reply.KeyPolicyNames = policies.key_policies_data
reply_data (reply.Rotations page) = rotation.rotations_data page
reply_data (reply.Aliases page) = aliases.aliases_data page
reply_data (reply.Granted grant) = grants.granted_data grant
reply_data (reply.Grants page) = grants.grants_data page
reply_data (reply.Encrypted blob arn) = cryptography.encrypted_data (base64_text blob) arn
reply_data (reply.Decrypted plaintext arn) = cryptography.decrypted_data (base64_text plaintext) arn
reply_data (reply.ReEncrypted blob arn source_arn) = cryptography.re_encrypted_data (base64_text blob) arn source_arn
reply_data (reply.DataKey blob plaintext arn) = cryptography.data_key_data (base64_text blob) (base64_text plaintext) arn
reply_data (reply.SealedDataKey blob arn) = cryptography.sealed_data_key_data (base64_text blob) arn
reply_data (reply.Random plaintext) = cryptography.random_data (base64_text plaintext)
reply_data (reply.Mac mac arn) = macs.mac_data (base64_text mac) arn
reply_data (reply.MacValid arn) = macs.mac_valid_data arn
reply_data (reply.Tags page) = tags.tags_data page
reply_data reply.Done = object no_members
reply_data (reply.Refused refusal) = refusal_data refusal
