-- What the bytes of a blob say: its form, and the key and the version that it was sealed under.
use Rattle.std.specs.Prelude.{ℕ, ◌+◌, ◌==◌, List, length, nat_le, ◌&&◌, Bool, if◌then◌else◌, Option, Some, None, option_map, slice_index, slice_range}
use Rattle.std.specs.Int.{w32, from_be_bytes}
use Rattle.blob_format.specs.Blob.{Form, form_one, form_two, form_byte, text_at}
use Rattle.blob_format.specs.declared.reading.Blob.{Blob}

-- the key's id, and the version of the key
pub record BlobName : Type 0 where
  pub key : List ℕ
  pub version : ℕ

abbrev pub name_in : List ℕ → BlobName
name_in bytes = record { key = slice_range bytes 1 17; version = from_be_bytes w32 (slice_range bytes 17 21) }

-- a blob of a form begins with its byte, names a version of at least 1, and has 1 to 4,096 bytes between
-- the place of its ciphertext and its tag of 16: 50 to 4,145 bytes in form 1, 82 to 4,177 in form 2
abbrev pub has_form : Form → List ℕ → Bool
has_form form bytes =
    (slice_index bytes 0 == form_byte form) && nat_le (text_at form + 17) (length bytes) && nat_le (length bytes) (text_at form + 4112) && nat_le 1 (name_in bytes).version

-- the form of the blob that bytes are, if they are one: a commitment has 32 bytes behind the vector
unfoldable pub form_in : List ℕ → Option Form
form_in bytes =
    let two = form_two (slice_range bytes 33 65) in
    if has_form form_one bytes then Some form_one else (if has_form two bytes then Some two else None)

unfoldable pub named_in : List ℕ → Option BlobName
named_in bytes = option_map (λ form. name_in bytes) (form_in bytes)

-- the same of a blob that was read
abbrev pub name_of : Blob → BlobName
name_of blob = record { key = blob.key; version = blob.version }
