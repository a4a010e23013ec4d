-- What the operations that use keys answer, with members in byte order of their names (AWS KMS API Reference, Encrypt, Decrypt, ReEncrypt and the Generate operations).
use Rattle.std.specs.Prelude.{ℕ, List, codes}
use Rattle.serde_json.specs.Data.{Data, object, no_members}
use Rattle.kms_json.specs.Objects.{symmetric_default, with_text}

abbrev pub encrypted_data : List ℕ → List ℕ → Data
encrypted_data blob arn = object (with_text (codes "CiphertextBlob") blob (with_text (codes "EncryptionAlgorithm") symmetric_default (with_text (codes "KeyId") arn no_members)))

abbrev pub decrypted_data : List ℕ → List ℕ → Data
decrypted_data plaintext arn = object (with_text (codes "EncryptionAlgorithm") symmetric_default (with_text (codes "KeyId") arn (with_text (codes "Plaintext") plaintext no_members)))

abbrev pub re_encrypted_data : List ℕ → List ℕ → List ℕ → Data
re_encrypted_data blob arn source_arn = object
    (with_text (codes "CiphertextBlob") blob
    (with_text (codes "DestinationEncryptionAlgorithm") symmetric_default
    (with_text (codes "KeyId") arn
    (with_text (codes "SourceEncryptionAlgorithm") symmetric_default
    (with_text (codes "SourceKeyId") source_arn no_members)))))

abbrev pub data_key_data : List ℕ → List ℕ → List ℕ → Data
data_key_data blob plaintext arn = object (with_text (codes "CiphertextBlob") blob (with_text (codes "KeyId") arn (with_text (codes "Plaintext") plaintext no_members)))

abbrev pub sealed_data_key_data : List ℕ → List ℕ → Data
sealed_data_key_data blob arn = object (with_text (codes "CiphertextBlob") blob (with_text (codes "KeyId") arn no_members))

abbrev pub random_data : List ℕ → Data
random_data plaintext = object (with_text (codes "Plaintext") plaintext no_members)
