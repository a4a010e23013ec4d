-- What a sealed text says of its form and of its key.
use Rattle.std.proofs.Common.{◌≡◌, ℕ, ◌+◌, ◌-◌, ◌<◌, ◌≤◌, ◌^◌, ◌&&◌, List, length, drop, get_or, Bool, true, false, Option, Some, None, refl, sym, ap, ◌∙◌, subst, if◌then◌else◌, eqb-true, eq-eqb, leb-true, le-leb, arith, length-take, lit<, inl, inr}
use Rattle.std.specs.Prelude.{slice_range, option_map}
use Rattle.std.specs.Int.{w32, from_be_bytes}
use Rattle.std.proofs.lemmas.Bool.{cases_lt}
use Rattle.std.proofs.lemmas.List.{get_or-take, get_or-drop, get_or_past}
use Rattle.std.proofs.lemmas.Nat.{be_bytes_4}
use Rattle.blob_format.specs.Blob.{Form, form_one, form_two, form_byte, text_at, commitment_in, IsBlobText}
use Rattle.blob_format.specs.Reading.{IsBlobOf, form_of}
use Rattle.blob_format.specs.declared.reading.Blob.{Blob}
use Rattle.blob_format.proofs.BlobFacts.{told, version_told, part_size, is_blob}
use Rattle.blob_format.specs.Names.{BlobName, name_in, has_form, form_in, named_in, name_of}

all_true : (a b c d : Bool) → a ≡ true → b ≡ true → c ≡ true → d ≡ true → (a && b && c && d) ≡ true
all_true a b c d ea eb ec ed = rw (ea, eb, ec, ed) refl

four_true : (a b c d : Bool) → (a && b && c && d) ≡ true → (a ≡ true) × (b ≡ true) × (c ≡ true) × (d ≡ true)
four_true true true true d e = (refl, refl, refl, e)
four_true true true false d e = cc
four_true true false c d e = cc
four_true false b c d e = cc

-- a blob has its form
formed : (bytes : List ℕ) (form : Form) (key : List ℕ) (version : ℕ) (iv text tag : List ℕ) → IsBlobText bytes form key version iv text tag → has_form form bytes ≡ true
formed bytes form key version iv text tag is =
    let parts = told bytes form key version iv text tag is in
    let from : text_at form + 17 ≤ length bytes = omega (arith, parts.size, is.text_given) in
    let to : length bytes ≤ text_at form + 4112 = omega (arith, parts.size, is.text_fits) in
    let some : 1 ≤ from_be_bytes w32 (slice_range bytes 17 21) = subst (λ (n : ℕ). 1 ≤ n) (sym (version_told bytes form key version iv text tag is)) is.version_from_one in
    all_true _ _ _ _ (eq-eqb _ (form_byte form) parts.first_is) (le-leb (text_at form + 17) (length bytes) from) (le-leb (length bytes) (text_at form + 4112) to) (le-leb 1 _ some)

first_of_form : (bytes : List ℕ) (form : Form) → has_form form bytes ≡ true → get_or bytes 0 0 ≡ form_byte form
first_of_form bytes form is = eqb-true _ (form_byte form) (four_true _ _ _ _ is).0

-- bytes that begin with 02 are not of form 1
not_one : (bytes : List ℕ) (b : Bool) → has_form form_one bytes ≡ b → get_or bytes 0 0 ≡ 2 → b ≡ false
not_one bytes true is two = absurd (omega (arith, first_of_form bytes form_one is, two))
not_one bytes false is two = refl

-- and say it
pub blob_form : (bytes : List ℕ) (form : Form) (key : List ℕ) (version : ℕ) (iv text tag : List ℕ) → IsBlobText bytes form key version iv text tag → form_in bytes ≡ Some form
unfolding form_in
blob_form bytes form_one key version iv text tag is =
    ap (λ (b : Bool). if b then Some form_one else (if has_form (form_two (slice_range bytes 33 65)) bytes then Some (form_two (slice_range bytes 33 65)) else None))
    (formed bytes form_one key version iv text tag is)
blob_form bytes (form_two commitment) key version iv text tag is =
    let two : Form = form_two (slice_range bytes 33 65) in
    let parts = told bytes (form_two commitment) key version iv text tag is in
    ap (λ (b : Bool). if b then Some form_one else (if has_form two bytes then Some two else None)) (not_one bytes (has_form form_one bytes) refl parts.first_is)
    ∙ ap (λ (b : Bool). if b then Some two else None) (formed bytes (form_two commitment) key version iv text tag is)
    ∙ ap (λ (c : List ℕ). Some (form_two c)) parts.commitment_at

name_is : (key key' : List ℕ) (version version' : ℕ) → key ≡ key' → version ≡ version' → ◌≡◌ {A = BlobName} (record { key = key; version = version }) (record { key = key'; version = version' })
name_is key key' version version' e f = λ i. record { key = e i; version = f i }

-- and it is named by its key and version
pub named_blob : (bytes : List ℕ) (form : Form) (key : List ℕ) (version : ℕ) (iv text tag : List ℕ) → IsBlobText bytes form key version iv text tag
    → named_in bytes ≡ Some (record { key = key; version = version })
unfolding named_in
named_blob bytes form key version iv text tag is =
    ap (option_map (λ (f : Form). name_in bytes)) (blob_form bytes form key version iv text tag is)
    ∙ ap Some (name_is _ key _ version (told bytes form key version iv text tag is).key_at (version_told bytes form key version iv text tag is))

pub named_read : (bytes : List ℕ) (blob : Blob) → IsBlobOf bytes blob → named_in bytes ≡ Some (name_of blob)
named_read bytes blob is = named_blob bytes (form_of blob) blob.key blob.version blob.iv _ blob.tag is.parts

-- ---- bytes of a form are a blob

-- the bytes that say a form have it, and a commitment of form 2 is theirs
pub record SaysForm (bytes : List ℕ) (form : Form) : Type 0 where
  pub has : has_form form bytes ≡ true
  pub commitment : commitment_in form ≡ slice_range bytes 33 (text_at form)

says_form : (bytes : List ℕ) (one two : Bool) (form : Form) → has_form form_one bytes ≡ one → has_form (form_two (slice_range bytes 33 65)) bytes ≡ two
    → (if one then Some form_one else (if two then Some (form_two (slice_range bytes 33 65)) else None)) ≡ Some form → SaysForm bytes form
says_form bytes true two form is_one is_two e =
    let same : form_one ≡ form = cc in
    subst (SaysForm bytes) same (record { has = is_one; commitment = refl })
says_form bytes false true form is_one is_two e =
    let same : form_two (slice_range bytes 33 65) ≡ form = cc in
    subst (SaysForm bytes) same (record { has = is_two; commitment = refl })
says_form bytes false false form is_one is_two e = cc

pub form_said_in : (bytes : List ℕ) (form : Form) → form_in bytes ≡ Some form → SaysForm bytes form
unfolding form_in
form_said_in bytes form e = says_form bytes (has_form form_one bytes) (has_form (form_two (slice_range bytes 33 65)) bytes) form refl refl e

-- how many bytes they have, and the version that they name
pub record IsSized (bytes : List ℕ) (form : Form) : Type 0 where
  pub from : text_at form + 17 ≤ length bytes
  pub to : length bytes ≤ text_at form + 4112
  pub version : 1 ≤ from_be_bytes w32 (slice_range bytes 17 21)

pub sized_form : (bytes : List ℕ) (form : Form) → SaysForm bytes form → IsSized bytes form
sized_form bytes form says =
    let parts = four_true _ _ _ _ says.has in
    record { from = leb-true (text_at form + 17) (length bytes) parts.1; to = leb-true (length bytes) (text_at form + 4112) parts.2; version = leb-true 1 _ parts.3 }

commitment_fits : (bytes : List ℕ) (form : Form) → SaysForm bytes form → 33 + length (commitment_in form) ≡ text_at form
commitment_fits bytes form says =
    let size = (sized_form bytes form says).from in
    let behind = place_behind form in
    omega (arith, size, behind, ap length says.commitment, part_size bytes 33 (text_at form) (omega (arith, size)))
  where
    place_behind : (form : Form) → 33 ≤ text_at form
    place_behind form_one = omega arith
    place_behind (form_two commitment) = omega arith

module _ (bytes : List ℕ) (fit : (i : ℕ) → get_or bytes i 0 < 256) where
  part_fits : (from to i : ℕ) → get_or (slice_range bytes from to) i 0 < 256
  part_fits from to i = elim (cases_lt i (to - from)) [
    | inl below ↦ subst (λ (n : ℕ). n < 256) (sym (get_or-take (to - from) (drop from bytes) i 0 below ∙ get_or-drop from bytes i 0)) (fit (from + i))
    | inr past ↦ subst (λ (n : ℕ). n < 256) (sym (get_or_past (slice_range bytes from to) i 0 (omega (arith, length-take {A = ℕ})))) (lit< tt)
  ]

  version_fits : from_be_bytes w32 (slice_range bytes 17 21) < 2 ^ 32
  version_fits = omega (arith, part_fits 17 21 0, part_fits 17 21 1, part_fits 17 21 2, part_fits 17 21 3)

  blob_formed : (form : Form) → SaysForm bytes form → IsBlobText bytes form (slice_range bytes 1 17) (from_be_bytes w32 (slice_range bytes 17 21)) (slice_range bytes 21 33)
      (slice_range bytes (text_at form) (length bytes - 16)) (slice_range bytes (length bytes - 16) (length bytes - 16 + 16))
  blob_formed form says =
      let size = sized_form bytes form says in
      let first : get_or bytes 0 0 ≡ form_byte form = first_of_form bytes form says.has in
      let commitment_size = commitment_fits bytes form says in
      let version_is = be_bytes_4 (slice_range bytes 17 21) _ (part_size bytes 17 21 (omega arith)) (part_fits 17 21) refl in
      is_blob bytes form (slice_range bytes 1 17) (from_be_bytes w32 (slice_range bytes 17 21)) (slice_range bytes 21 33) (slice_range bytes (length bytes - 16) (length bytes - 16 + 16)) (length bytes - 16) (omega arith) (omega arith) (omega arith) first commitment_size says.commitment refl version_is refl refl size.version version_fits

  form_none : (said : Option Form) → form_in bytes ≡ said → ((form : Form) (key : List ℕ) (version : ℕ) (iv text tag : List ℕ) → ¬ IsBlobText bytes form key version iv text tag) → said ≡ None
  form_none (Some form) is none = absurd (none _ _ _ _ _ _ (blob_formed form (form_said_in bytes form is)))
  form_none None is none = refl

  pub named_none : ((form : Form) (key : List ℕ) (version : ℕ) (iv text tag : List ℕ) → ¬ IsBlobText bytes form key version iv text tag) → named_in bytes ≡ None
  unfolding named_in
  named_none none = ap (option_map (λ (f : Form). name_in bytes)) (form_none (form_in bytes) refl none)

  named_by : (name : BlobName) (said : Option Form) → form_in bytes ≡ said → option_map (λ (f : Form). name_in bytes) said ≡ Some name
      → (form : Form) × (iv : List ℕ) × (text : List ℕ) × (tag : List ℕ) × IsBlobText bytes form name.key name.version iv text tag
  named_by name (Some form) is e =
      let same : name_in bytes ≡ name = cc in
      subst (λ (n : BlobName). (form : Form) × (iv : List ℕ) × (text : List ℕ) × (tag : List ℕ) × IsBlobText bytes form n.key n.version iv text tag) same
      (form, slice_range bytes 21 33, slice_range bytes (text_at form) (length bytes - 16), slice_range bytes (length bytes - 16) (length bytes - 16 + 16), blob_formed form (form_said_in bytes form is))
  named_by name None is e = cc

  pub named_only : (name : BlobName) → named_in bytes ≡ Some name
      → (form : Form) × (iv : List ℕ) × (text : List ℕ) × (tag : List ℕ) × IsBlobText bytes form name.key name.version iv text tag
  unfolding named_in
  named_only name e = named_by name (form_in bytes) refl e
