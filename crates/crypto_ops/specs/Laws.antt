-- Laws of sealing.
use Rattle.std.specs.Prelude.{◌≡◌, ◌≢◌, ◌↔◌, ◌⊎◌, ⊤, ℕ, ◌^◌, ◌<◌, ◌≤◌, List, length, take, Some, IsSome}
use Rattle.blob_format.specs.Blob.{Form, form_one, form_two, head_size, IsBlobText}
use Rattle.enc_context.specs.declared.pairs.Pair.{Pair}
use Rattle.enc_context.specs.Encoding.{IsContext}
use Rattle.enc_context.specs.Laws.{HaveSamePairs}
use Rattle.gcm_seal.specs.Gcm.{tag_of}
use Rattle.crypto_ops.specs.Material.{material_of, blob_key, data_key, commitment_of}
use Rattle.crypto_ops.specs.Sealed.{additional_data, sealed, sealed_one, opened}

-- what can be sealed: an id of 16 bytes, a version of at least 1 in 32 bits, an initialization vector
-- of 12 bytes and a text of 1 to 4,096 bytes
pub record CanSeal (id : List ℕ) (version : ℕ) (iv text : List ℕ) : Type 0 where
  pub id_size : length id ≡ 16
  pub version_from_one : 1 ≤ version
  pub version_fits : version < 2 ^ 32
  pub iv_size : length iv ≡ 12
  pub text_given : 1 ≤ length text
  pub text_fits : length text ≤ 4096

-- what is sealed is a blob of form 2 of the id, the version and the vector, with the commitment to its
-- data key and a ciphertext as long as the text
abbrev pub SealedIsABlob : Type 0
SealedIsABlob =
    (root id : List ℕ) (version : ℕ) (iv : List ℕ) (pairs : List Pair) (text : List ℕ)
    → CanSeal id version iv text
    → (ciphertext : List ℕ) × (tag : List ℕ) × (length ciphertext ≡ length text)
    × IsBlobText (sealed root id version iv pairs text) (form_two (commitment_of (blob_key (material_of root id version) iv))) id version iv ciphertext tag

abbrev pub SealedOneIsABlob : Type 0
SealedOneIsABlob =
    (root id : List ℕ) (version : ℕ) (iv : List ℕ) (pairs : List Pair) (text : List ℕ)
    → CanSeal id version iv text
    → (ciphertext : List ℕ) × (tag : List ℕ) × (length ciphertext ≡ length text)
    × IsBlobText (sealed_one root id version iv pairs text) form_one id version iv ciphertext tag

-- a blob that was sealed under a context opens, under the same root secret and a context with the same
-- pairs, to the text that was sealed
abbrev pub SealedOpensAgain : Type 0
SealedOpensAgain =
    (root id : List ℕ) (version : ℕ) (iv : List ℕ) (pairs pairs' : List Pair) (text : List ℕ)
    → CanSeal id version iv text → IsContext pairs → IsContext pairs' → HaveSamePairs pairs pairs'
    → opened root (sealed root id version iv pairs text) pairs' ≡ Some text

abbrev pub SealedOneOpensAgain : Type 0
SealedOneOpensAgain =
    (root id : List ℕ) (version : ℕ) (iv : List ℕ) (pairs pairs' : List Pair) (text : List ℕ)
    → CanSeal id version iv text → IsContext pairs → IsContext pairs' → HaveSamePairs pairs pairs'
    → opened root (sealed_one root id version iv pairs text) pairs' ≡ Some text

-- the commitment of a blob, where it has one, is that of this data key
abbrev pub HasCommitment : Form → List ℕ → Type 0
HasCommitment form_one key = ⊤
HasCommitment (form_two commitment) key = commitment ≡ commitment_of key

-- a blob opens exactly where its commitment is that of its data key, and its tag is the one of its
-- ciphertext, of its head and of the context (SP 800-38D, 7.1), under that key: the data key of its
-- form, and of the key, the version and the vector that it says
abbrev pub OpensByItsTag : Type 0
OpensByItsTag =
    (root bytes : List ℕ) (form : Form) (id : List ℕ) (version : ℕ) (iv ciphertext tag : List ℕ) (pairs : List Pair)
    → IsBlobText bytes form id version iv ciphertext tag
    → let key = data_key form (material_of root id version) iv in
    IsSome (opened root bytes pairs)
    ↔ (HasCommitment form key × (tag ≡ tag_of key iv (additional_data (take (head_size form) bytes) pairs) ciphertext))

-- two root secrets under which a blob of form 2 opens, under whatever contexts, give data keys with one
-- commitment
abbrev pub OpensUnderOneCommitment : Type 0
OpensUnderOneCommitment =
    (root root' bytes id : List ℕ) (version : ℕ) (iv commitment ciphertext tag : List ℕ) (pairs pairs' : List Pair)
    → IsBlobText bytes (form_two commitment) id version iv ciphertext tag
    → IsSome (opened root bytes pairs) → IsSome (opened root' bytes pairs')
    → commitment_of (blob_key (material_of root id version) iv) ≡ commitment_of (blob_key (material_of root' id version) iv)

-- two different keys with one commitment: HMAC-SHA-256 gives one value for both
pub record ShareACommitment (key key' : List ℕ) : Type 0 where
  pub differ : key ≢ key'
  pub one : commitment_of key ≡ commitment_of key'

-- so a blob of form 2 opens under at most one data key, unless two different keys share a commitment
abbrev pub OpensUnderOneKey : Type 0
OpensUnderOneKey =
    (root root' bytes id : List ℕ) (version : ℕ) (iv commitment ciphertext tag : List ℕ) (pairs pairs' : List Pair)
    → IsBlobText bytes (form_two commitment) id version iv ciphertext tag
    → IsSome (opened root bytes pairs) → IsSome (opened root' bytes pairs')
    → let key = blob_key (material_of root id version) iv in
    let key' = blob_key (material_of root' id version) iv in
    (key ≡ key') ⊎ ShareACommitment key key'
