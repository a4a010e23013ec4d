-- Laws of blobs. Each speaks of both forms.
use Rattle.std.specs.Prelude.{◌≡◌, ◌<◌, ℕ, ◌+◌, List, length, Option, Some, slice_index}
use Rattle.blob_format.specs.Blob.{Form, form_byte, text_at, IsBlobText}
use Rattle.blob_format.specs.Reading.{Reads, commitment_field}
use Rattle.blob_format.specs.Names.{BlobName, form_in, named_in}
use Rattle.blob_format.specs.declared.reading.Blob.{Blob}

-- two blobs of one value are the same bytes
abbrev pub OneSpelling : Type 0
OneSpelling =
    (a b : List ℕ) (form : Form) (key : List ℕ) (version : ℕ) (iv text tag : List ℕ)
    → IsBlobText a form key version iv text tag → IsBlobText b form key version iv text tag → a ≡ b

-- one blob has one value
abbrev pub OneValue : Type 0
OneValue =
    (bytes : List ℕ) (form form' : Form) (key key' : List ℕ) (version version' : ℕ) (iv iv' text text' tag tag' : List ℕ)
    → IsBlobText bytes form key version iv text tag → IsBlobText bytes form' key' version' iv' text' tag'
    → (form ≡ form') × (key ≡ key') × (version ≡ version') × (iv ≡ iv') × (text ≡ text') × (tag ≡ tag')

-- the blob of a value is read, and what is read of it is that value
abbrev pub WrittenIsReadAgain : Type 0
WrittenIsReadAgain =
    (bytes : List ℕ) (form : Form) (key : List ℕ) (version : ℕ) (iv text tag : List ℕ) (answer : Option Blob)
    → IsBlobText bytes form key version iv text tag → Reads bytes answer
    → answer ≡ Some (record {
      form = form_byte form;
      key = key;
      version = version;
      iv = iv;
      commitment = commitment_field form;
      text_from = text_at form;
      text_to = text_at form + length text;
      tag = tag;
    })

-- a blob says its form
abbrev pub BlobsSayTheirForm : Type 0
BlobsSayTheirForm =
    (bytes : List ℕ) (form : Form) (key : List ℕ) (version : ℕ) (iv text tag : List ℕ)
    → IsBlobText bytes form key version iv text tag → form_in bytes ≡ Some form

-- a blob names the key and the version that it says
abbrev pub BlobsAreNamed : Type 0
BlobsAreNamed =
    (bytes : List ℕ) (form : Form) (key : List ℕ) (version : ℕ) (iv text tag : List ℕ)
    → IsBlobText bytes form key version iv text tag → named_in bytes ≡ Some (record { key = key; version = version })

-- and only blobs name any: bytes that name a key and a version are the blob of these
abbrev pub NamedAreBlobs : Type 0
NamedAreBlobs =
    (bytes : List ℕ) (name : BlobName) → ((i : ℕ) → slice_index bytes i < 256) → named_in bytes ≡ Some name
    → (form : Form) × (iv : List ℕ) × (text : List ℕ) × (tag : List ℕ) × IsBlobText bytes form name.key name.version iv text tag
