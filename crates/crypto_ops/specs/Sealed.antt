-- The blob that a text is sealed into, and the text that a blob opens to.
use Rattle.std.specs.Prelude.{ℕ, ◌-◌, Bool, true, if◌then◌else◌, List, ◌++◌, length, take, drop, slice_range, Option, None, option_and_then}
use Rattle.std.specs.Str.{bytes_eq}
use Rattle.blob_format.specs.Blob.{Form, form_one, form_two, head_size, text_at, blob_head, blob_text}
use Rattle.blob_format.specs.Names.{name_in, form_in}
use Rattle.enc_context.specs.declared.pairs.Pair.{Pair}
use Rattle.enc_context.specs.Encoding.{encoding_of}
use Rattle.gcm_seal.specs.Gcm.{sealed_text, tag_of, open_of}
use Rattle.crypto_ops.specs.Material.{material_of, blob_key, data_key, commitment_of}

-- what is authenticated beside the ciphertext: the blob's head and the encoded context
unfoldable pub additional_data : List ℕ → List Pair → List ℕ
additional_data head pairs = head ++ encoding_of pairs

-- the blob of a text that is sealed (SP 800-38D, 7.1) by a data key, under a context: form, data key,
-- id, version, initialization vector, pairs, text
abbrev pub sealed_by : Form → List ℕ → List ℕ → ℕ → List ℕ → List Pair → List ℕ → List ℕ
sealed_by form key id version iv pairs text =
    let ciphertext = sealed_text key iv text in
    blob_text form id version iv ciphertext (tag_of key iv (additional_data (blob_head form id version iv) pairs) ciphertext)

-- the blob of form 2 of a text: root secret, id, version, initialization vector, pairs, text
unfoldable pub sealed : List ℕ → List ℕ → ℕ → List ℕ → List Pair → List ℕ → List ℕ
sealed root id version iv pairs text =
    let key = blob_key (material_of root id version) iv in
    sealed_by (form_two (commitment_of key)) key id version iv pairs text

-- the blob of form 1 of a text
unfoldable pub sealed_one : List ℕ → List ℕ → ℕ → List ℕ → List Pair → List ℕ → List ℕ
sealed_one root id version iv pairs text = sealed_by form_one (material_of root id version) id version iv pairs text

-- the commitment of a blob, where it has one, is that of this data key
abbrev pub has_commitment : Form → List ℕ → Bool
has_commitment form_one key = true
has_commitment (form_two commitment) key = bytes_eq commitment (commitment_of key)

-- the text that a blob of a form opens to (SP 800-38D, 7.2): none where its commitment is not that of
-- the data key, and none where its tag does not match
abbrev pub opened_as : Form → List ℕ → List ℕ → List Pair → Option (List ℕ)
opened_as form root bytes pairs =
    let name = name_in bytes in
    let iv = slice_range bytes 21 33 in
    let key = data_key form (material_of root name.key name.version) iv in
    let text_to = length bytes - 16 in
    if has_commitment form key
    then open_of key iv (additional_data (take (head_size form) bytes) pairs) (slice_range bytes (text_at form) text_to) (drop text_to bytes)
    else None

-- the text that bytes open to, by the data key of their form and of the key and the version that they
-- name, under a context: root secret, the blob's bytes, pairs
unfoldable pub opened : List ℕ → List ℕ → List Pair → Option (List ℕ)
opened root bytes pairs = option_and_then (λ form. opened_as form root bytes pairs) (form_in bytes)
