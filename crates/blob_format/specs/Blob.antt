-- The bytes of a blob, in either form.
use Rattle.std.specs.Prelude.{◌≡◌, ℕ, ◌+◌, ◌^◌, ◌<◌, ◌≤◌, List, [], ◌∷◌, ◌++◌, length}
use Rattle.std.specs.Int.{w32, to_be_bytes}

-- the form of a blob: form 1, or form 2 with its commitment to the data key
pub data Form : Type 0 where
  form_one : Form
  form_two : List ℕ → Form

-- what every blob begins with: the byte of its form, the key's id, and the version with its high byte
-- first
abbrev pub blob_start : ℕ → List ℕ → ℕ → List ℕ
blob_start form key version = form ∷ key ++ to_be_bytes w32 version

-- the head, which is what a cipher authenticates of a blob beside the ciphertext
abbrev pub blob_head : Form → List ℕ → ℕ → List ℕ → List ℕ
blob_head form_one key version iv = blob_start 0x01 key version
blob_head (form_two commitment) key version iv = blob_start 0x02 key version ++ iv ++ commitment

-- the whole, which the ciphertext and the tag end
unfoldable pub blob_text : Form → List ℕ → ℕ → List ℕ → List ℕ → List ℕ → List ℕ
blob_text form_one key version iv text tag = blob_start 0x01 key version ++ iv ++ text ++ tag
blob_text (form_two commitment) key version iv text tag = blob_start 0x02 key version ++ iv ++ commitment ++ text ++ tag

-- the first byte
abbrev pub form_byte : Form → ℕ
form_byte form_one = 0x01
form_byte (form_two commitment) = 0x02

-- how many bytes the head has
abbrev pub head_size : Form → ℕ
head_size form_one = 21
head_size (form_two commitment) = 65

-- the place of the ciphertext's first byte
abbrev pub text_at : Form → ℕ
text_at form_one = 33
text_at (form_two commitment) = 65

-- what stands between the vector and the ciphertext: in form 2 the commitment
abbrev pub commitment_in : Form → List ℕ
commitment_in form_one = []
commitment_in (form_two commitment) = commitment

-- the bytes are the blob of these: the id and the tag have 16 bytes, the vector 12 and a commitment 32,
-- the version is at least 1, and the ciphertext has 1 to 4,096 bytes
pub record IsBlobText (bytes : List ℕ) (form : Form) (key : List ℕ) (version : ℕ) (iv text tag : List ℕ) : Type 0 where
  pub key_size : length key ≡ 16
  pub version_from_one : 1 ≤ version
  pub version_fits : version < 2 ^ 32
  pub iv_size : length iv ≡ 12
  pub commitment_size : 33 + length (commitment_in form) ≡ text_at form
  pub text_given : 1 ≤ length text
  pub text_fits : length text ≤ 4096
  pub tag_size : length tag ≡ 16
  pub spelling : bytes ≡ blob_text form key version iv text tag
