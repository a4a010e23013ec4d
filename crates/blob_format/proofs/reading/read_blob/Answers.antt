-- What begins with another byte, or is too short for its commitment, is no blob.
use Rattle.std.proofs.Common.{◌≡◌, ◌⊎◌, inl, inr, ◌<◌, ◌∙◌, sym, subst, length, ℕ, List, [], Some, arith}
use Rattle.std.specs.Prelude.{slice_get}
use Rattle.std.proofs.lemmas.Option.{slice_get-get_or, get_or_from_slice_get}
use Rattle.blob_format.specs.Blob.{Form, form_one, form_two, form_byte, text_at, IsBlobText}
use Rattle.blob_format.specs.Reading.{Reads}
use Rattle.blob_format.proofs.BlobFacts.{told, same_place}
use Rattle.blob_format.proofs.reading.read_blob.Goals as goal

-- a blob has a first byte
begins : (bytes : List ℕ) (form : Form) (key : List ℕ) (version : ℕ) (iv text tag : List ℕ) → IsBlobText bytes form key version iv text tag
    → slice_get bytes 0 ≡ Some (form_byte form)
begins bytes form key version iv text tag is =
    let parts = told bytes form key version iv text tag is in
    let some : 0 < length bytes = omega (arith, parts.size) in
    subst (λ (byte : ℕ). slice_get bytes 0 ≡ Some byte) parts.first_is (slice_get-get_or bytes 0 0 some)

one_or_two : (form : Form) (byte : ℕ) → form_byte form ≡ byte → (byte ≡ 1) ⊎ (byte ≡ 2)
one_or_two form_one byte is = inl (sym is)
one_or_two (form_two commitment) byte is = inr (sym is)

pub returns-in_err-first : goal.returns-in_err-first
returns-in_err-first c =
    subst (Reads c.args.bytes.now) (sym c.from_residual.ensures) (λ form key version iv text tag is.
    let first = begins c.args.bytes.now form key version iv text tag is in
    let none = c.in_err-first.ensures.value in
    cc)

pub returns-in_err-commitment_at-in-2 : goal.returns-in_err-commitment_at-in-2
returns-in_err-commitment_at-in-2 c =
    subst (Reads c.args.bytes.now) (sym c.from_residual-in_err-commitment_at-in-2.ensures) (λ form key version iv text tag is.
    let parts = told c.args.bytes.now form key version iv text tag is in
    let first = get_or_from_slice_get c.args.bytes.now 0 c.in_ok-first.field-0.now 0 (sym c.in_ok-first.ensures.value) in
    let two : form_byte form ≡ 2 = sym parts.first_is ∙ first ∙ omega arith in
    let place : text_at form ≡ 65 = same_place form (form_two []) two in
    c.in_err-commitment_at-in-2.ensures (omega (arith, parts.size, place)))

pub returns-in_default : goal.returns-in_default
returns-in_default c form key version iv text tag is =
    let parts = told c.args.bytes.now form key version iv text tag is in
    let first = get_or_from_slice_get c.args.bytes.now 0 c.in_ok-first.field-0.now 0 (sym c.in_ok-first.ensures.value) in
    elim (one_or_two form c.in_ok-first.field-0.now (sym parts.first_is ∙ first)) [
      | inl one ↦ omega (arith, one)
      | inr two ↦ omega (arith, two)
    ]
