-- A blob has its size and its version, and bytes with these are a blob.
use Rattle.std.proofs.Common.{rules, ◌≡◌, ◌-◌, ◌∙◌, sym, ap, subst, length, arith, w32, ℕ, List}
use Rattle.std.specs.Prelude.{slice_range}
use Rattle.std.specs.Int.{from_be_bytes}
use Rattle.std.proofs.lemmas.Nat.{be_bytes_4}
use Rattle.blob_format.specs.Blob.{Form, text_at, IsBlobText}
use Rattle.blob_format.specs.Reading.{form_said}
use Rattle.blob_format.proofs.BlobFacts.{told, begun, is_blob, part_size, version_told}
use Rattle.blob_format.proofs.reading.read_parts.Goals as goal
use Rattle.blob_format.proofs.reading.read_parts.Goals.{then-size-least-via-then-size-least, then-size-least-via-else-size-least+then-most-size}

pub returns-then-size-least : goal.returns-then-size-least
returns-then-size-least c form key version iv text tag is =
    let parts = told c.args.bytes.now form key version iv text tag is in
    let place = begun c.args.bytes.now c.args.form c.args.commitment c.args.text_from form key version iv text tag c.requires is in
    elim c.then-size-least.branch [
      | then-size-least-via-then-size-least w ↦ omega (arith, parts.size, place, is.text_given)
      | then-size-least-via-else-size-least+then-most-size w ↦ omega (arith, parts.size, place, is.text_fits)
    ]

pub returns-then-version-lt-FIRST_VERSION : goal.returns-then-version-lt-FIRST_VERSION
returns-then-version-lt-FIRST_VERSION c form key version iv text tag is =
    let told_version : c.from_be_bytes-version.result ≡ version =
    c.from_be_bytes-version.ensures ∙ ap (from_be_bytes w32) c.array_at.ensures
    ∙ version_told c.args.bytes.now form key version iv text tag is in
    omega (arith, told_version, is.version_from_one)

pub returns : goal.returns
returns c =
    let form : Form = form_said c.args.form c.args.commitment in
    let bytes : List ℕ = c.args.bytes.now in
    let size : length c.array_at.result ≡ 4 = ap length c.array_at.ensures ∙ part_size bytes 17 21 (omega arith) in
    let version_is = be_bytes_4 c.array_at.result c.from_be_bytes-version.result size (search rules) c.from_be_bytes-version.ensures in
    let place : c.args.text_from ≡ text_at form = c.requires.text_from in
    record {
      form = c.requires.form;
      commitment = c.requires.field;
      text_from = place;
      text_to = omega arith;
      parts =
          subst (λ (from : ℕ). IsBlobText bytes form c.new.result c.from_be_bytes-version.result c.array_at-3.result (slice_range bytes from (length bytes - 16)) c.array_at-4.result)
          (sym place)
          (is_blob bytes form c.new.result c.from_be_bytes-version.result c.array_at-3.result c.array_at-4.result
          (length bytes - 16) (omega (arith, place)) (omega (arith, place)) (omega arith) (c.requires.first ∙ c.requires.form)
          (c.requires.size ∙ place) (c.requires.stands ∙ ap (slice_range bytes 33) place)
          (c.new.ensures ∙ c.array_at-2.ensures) (version_is ∙ c.array_at.ensures) c.array_at-3.ensures c.array_at-4.ensures
          (omega arith) (omega arith));
    }
