-- What reading a blob answers.
use Rattle.std.specs.Prelude.{◌≡◌, ◌==◌, ℕ, ◌+◌, List, length, replicate, slice_index, slice_range, ◌≤◌, if◌then◌else◌, Option, MatchOption}
use Rattle.blob_format.specs.Blob.{Form, form_one, form_two, form_byte, text_at, commitment_in, IsBlobText}
use Rattle.blob_format.specs.declared.reading.Blob.{Blob}

-- the form that the fields `form` and `commitment` say
abbrev pub form_said : ℕ → List ℕ → Form
form_said form commitment = if form == 1 then form_one else form_two commitment

abbrev pub form_of : Blob → Form
form_of blob = form_said blob.form blob.commitment

-- the field `commitment` of a blob of a form: in form 1 zeros
abbrev pub commitment_field : Form → List ℕ
commitment_field form_one = replicate 32 0
commitment_field (form_two commitment) = commitment

-- the bytes are the blob of this value: the ciphertext is the part from its place up to the last 16 bytes
pub record IsBlobOf (bytes : List ℕ) (blob : Blob) : Type 0 where
  pub form : blob.form ≡ form_byte (form_of blob)
  pub commitment : blob.commitment ≡ commitment_field (form_of blob)
  pub text_from : blob.text_from ≡ text_at (form_of blob)
  pub text_to : blob.text_to + 16 ≡ length bytes
  pub parts : IsBlobText bytes (form_of blob) blob.key blob.version blob.iv (slice_range bytes blob.text_from blob.text_to) blob.tag

-- there is an answer exactly where the bytes are the blob of some value, and it is that value
abbrev pub Reads : List ℕ → Option Blob → Type 0
Reads bytes answer =
    MatchOption answer
    ((form : Form) (key : List ℕ) (version : ℕ) (iv text tag : List ℕ) → ¬ IsBlobText bytes form key version iv text tag)
    (λ blob. IsBlobOf bytes blob)

-- bytes begin as a form: this byte, this commitment and this place of the ciphertext are those of one
pub record Begins (bytes : List ℕ) (byte : ℕ) (commitment : List ℕ) (place : ℕ) : Type 0 where
  pub given : 1 ≤ length bytes
  pub first : slice_index bytes 0 ≡ byte
  pub form : byte ≡ form_byte (form_said byte commitment)
  pub field : commitment ≡ commitment_field (form_said byte commitment)
  pub text_from : place ≡ text_at (form_said byte commitment)
  pub size : 33 + length (commitment_in (form_said byte commitment)) ≡ place
  pub stands : commitment_in (form_said byte commitment) ≡ slice_range bytes 33 place
