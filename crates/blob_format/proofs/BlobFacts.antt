-- Where the parts of a blob stand in its bytes.
use Rattle.std.proofs.Common.{◌≡◌, ℕ, ◌+◌, ◌-◌, ◌<◌, ◌≤◌, ◌^◌, List, ◌∷◌, ◌++◌, length, take, drop, get_or, refl, sym, ap, ◌∙◌, append_assoc, arith, length-append, length-drop}
use Rattle.std.specs.Prelude.{slice_range}
use Rattle.std.specs.Int.{w32, to_be_bytes, from_be_bytes}
use Rattle.std.proofs.lemmas.List.{take_at, drop_at, drop-drop, take-append-drop, drop_more, length-take-le}
use Rattle.std.proofs.lemmas.Slice.{between_to_end}
use Rattle.std.proofs.lemmas.Nat.{from_be_bytes-to_be_bytes_4}
use Rattle.std.specs.Prelude.{Option, Some, None}
use Rattle.blob_format.specs.Blob.{Form, form_one, form_two, form_byte, text_at, commitment_in, blob_text, IsBlobText}
use Rattle.blob_format.specs.Reading.{Reads, Begins, form_of, form_said, commitment_field}
use Rattle.blob_format.specs.declared.reading.Blob.{Blob}

-- the parts one after the other
abbrev joined : ℕ → List ℕ → List ℕ → List ℕ → List ℕ → List ℕ → List ℕ → List ℕ
joined first key version iv commitment text tag = first ∷ (key ++ (version ++ (iv ++ (commitment ++ (text ++ tag)))))

text_joined : (form : Form) (key : List ℕ) (version : ℕ) (iv text tag : List ℕ)
    → blob_text form key version iv text tag ≡ joined (form_byte form) key (to_be_bytes w32 version) iv (commitment_in form) text tag
unfolding blob_text
text_joined form_one key version iv text tag = simp append_assoc
text_joined (form_two commitment) key version iv text tag = simp append_assoc

-- where each part stands, in bytes whose ciphertext begins at a place
pub record Told (bytes : List ℕ) (first : ℕ) (key version iv commitment text tag : List ℕ) (from : ℕ) : Type 0 where
  pub size : length bytes ≡ from + 16 + length text
  pub first_is : get_or bytes 0 0 ≡ first
  pub key_at : slice_range bytes 1 17 ≡ key
  pub version_at : slice_range bytes 17 21 ≡ version
  pub iv_at : slice_range bytes 21 33 ≡ iv
  pub commitment_at : slice_range bytes 33 from ≡ commitment
  pub text_at : slice_range bytes from (from + length text) ≡ text
  pub tag_at : drop (from + length text) bytes ≡ tag

module _ (first : ℕ) (key version iv commitment text tag : List ℕ) (from : ℕ) (key_size : length key ≡ 16) (version_size : length version ≡ 4) (iv_size : length iv ≡ 12)
    (commitment_size : 33 + length commitment ≡ from) (tag_size : length tag ≡ 16) where
  abbrev whole : List ℕ
  whole = joined first key version iv commitment text tag

  after_key : drop 17 whole ≡ version ++ (iv ++ (commitment ++ (text ++ tag)))
  after_key = drop_at key _ 16 key_size

  after_version : drop 21 whole ≡ iv ++ (commitment ++ (text ++ tag))
  after_version = sym (drop-drop 4 17 whole) ∙ ap (drop 4) after_key ∙ drop_at version _ 4 version_size

  after_iv : drop 33 whole ≡ commitment ++ (text ++ tag)
  after_iv = sym (drop-drop 12 21 whole) ∙ ap (drop 12) after_version ∙ drop_at iv _ 12 iv_size

  after_commitment : drop from whole ≡ text ++ tag
  after_commitment =
      ap (λ (n : ℕ). drop n whole) (sym commitment_size)
      ∙ sym (drop-drop (length commitment) 33 whole) ∙ ap (drop (length commitment)) after_iv ∙ drop_at commitment _ (length commitment) refl

  joined_told : Told whole first key version iv commitment text tag from
  joined_told = record {
    size = simp length-append (omega arith);
    first_is = refl;
    key_at = take_at key _ 16 key_size;
    version_at = ap (take 4) after_key ∙ take_at version _ 4 version_size;
    iv_at = ap (take 12) after_version ∙ take_at iv _ 12 iv_size;
    commitment_at =
        ap (λ (n : ℕ). take n (drop 33 whole)) (omega arith)
        ∙ ap (take (length commitment)) after_iv ∙ take_at commitment _ (length commitment) refl;
    text_at =
        ap (λ (n : ℕ). take n (drop from whole)) (omega arith)
        ∙ ap (take (length text)) after_commitment ∙ take_at text tag (length text) refl;
    tag_at = sym (drop-drop (length text) from whole) ∙ ap (drop (length text)) after_commitment ∙ drop_at text tag (length text) refl;
  }

-- the parts of a blob stand at their places
pub told : (bytes : List ℕ) (form : Form) (key : List ℕ) (version : ℕ) (iv text tag : List ℕ) → IsBlobText bytes form key version iv text tag
    → Told bytes (form_byte form) key (to_be_bytes w32 version) iv (commitment_in form) text tag (text_at form)
told bytes form key version iv text tag is =
    rw (is.spelling, text_joined)
    (joined_told (form_byte form) key (to_be_bytes w32 version) iv (commitment_in form) text tag (text_at form) is.key_size refl is.iv_size is.commitment_size is.tag_size)

-- one part and what follows it
part_and_rest : (bytes : List ℕ) (i j : ℕ) → i ≤ j → drop i bytes ≡ slice_range bytes i j ++ drop j bytes
part_and_rest bytes i j ordered =
    let ends : i + (j - i) ≡ j = omega arith in
    sym (take-append-drop (j - i) (drop i bytes))
    ∙ ap (λ (rest : List ℕ). slice_range bytes i j ++ rest)
    (drop-drop (j - i) i bytes ∙ ap (λ (n : ℕ). drop n bytes) ends)

pub part_size : (bytes : List ℕ) (i j : ℕ) → j ≤ length bytes → length (slice_range bytes i j) ≡ j - i
part_size bytes i j fits =
    let enough : j - i ≤ length (drop i bytes) = rw length-drop (omega arith) in
    length-take-le (j - i) (drop i bytes) enough

-- bytes of a right size are their parts
rejoined : (bytes : List ℕ) (first from text_to : ℕ) → 33 ≤ from → from ≤ text_to → length bytes ≡ text_to + 16 → get_or bytes 0 0 ≡ first
    → bytes ≡ joined first (slice_range bytes 1 17) (slice_range bytes 17 21) (slice_range bytes 21 33) (slice_range bytes 33 from)
    (slice_range bytes from text_to) (slice_range bytes text_to (text_to + 16))
rejoined bytes first from text_to behind ordered size first_is =
    let some : 0 < length bytes = omega arith in
    drop_more bytes 0 0 some
    ∙ ap (λ (byte : ℕ). byte ∷ drop 1 bytes) first_is
    ∙ ap (λ (rest : List ℕ). first ∷ rest)
    (part_and_rest bytes 1 17 (omega arith)
    ∙ ap (λ (rest : List ℕ). slice_range bytes 1 17 ++ rest)
    (part_and_rest bytes 17 21 (omega arith)
    ∙ ap (λ (rest : List ℕ). slice_range bytes 17 21 ++ rest)
    (part_and_rest bytes 21 33 (omega arith)
    ∙ ap (λ (rest : List ℕ). slice_range bytes 21 33 ++ rest)
    (part_and_rest bytes 33 from behind
    ∙ ap (λ (rest : List ℕ). slice_range bytes 33 from ++ rest)
    (part_and_rest bytes from text_to ordered
    ∙ ap (λ (rest : List ℕ). slice_range bytes from text_to ++ rest)
    (sym (between_to_end bytes text_to (text_to + 16) (omega arith))))))))

joined_same : (first : ℕ) (key version iv commitment text tag key' version' iv' commitment' tag' : List ℕ)
    → key ≡ key' → version ≡ version' → iv ≡ iv' → commitment ≡ commitment' → tag ≡ tag'
    → joined first key version iv commitment text tag ≡ joined first key' version' iv' commitment' text tag'
joined_same first key version iv commitment text tag key' version' iv' commitment' tag' key_is version_is iv_is commitment_is tag_is = cc

-- such bytes are the blob of what stands at the places
pub is_blob : (bytes : List ℕ) (form : Form) (key : List ℕ) (version : ℕ) (iv tag : List ℕ) (text_to : ℕ)
    → text_at form + 1 ≤ text_to → text_to ≤ text_at form + 4096 → length bytes ≡ text_to + 16 → get_or bytes 0 0 ≡ form_byte form
    → 33 + length (commitment_in form) ≡ text_at form → commitment_in form ≡ slice_range bytes 33 (text_at form)
    → key ≡ slice_range bytes 1 17 → to_be_bytes w32 version ≡ slice_range bytes 17 21
    → iv ≡ slice_range bytes 21 33 → tag ≡ slice_range bytes text_to (text_to + 16)
    → 1 ≤ version → version < 2 ^ 32
    → IsBlobText bytes form key version iv (slice_range bytes (text_at form) text_to) tag
is_blob bytes form key version iv tag text_to from to size first commitment_size commitment_is key_is version_is iv_is tag_is positive fits = record {
  key_size = ap length key_is ∙ part_size bytes 1 17 (omega arith);
  version_from_one = positive;
  version_fits = fits;
  iv_size = ap length iv_is ∙ part_size bytes 21 33 (omega arith);
  commitment_size = commitment_size;
  text_given = rw (part_size bytes (text_at form) text_to (omega arith)) (omega arith);
  text_fits = rw (part_size bytes (text_at form) text_to (omega arith)) (omega arith);
  tag_size = ap length tag_is ∙ part_size bytes text_to (text_to + 16) (omega arith) ∙ omega arith;
  spelling =
      rejoined bytes (form_byte form) (text_at form) text_to (omega arith) (omega arith) size first
      ∙ sym (joined_same (form_byte form) _ _ _ _ (slice_range bytes (text_at form) text_to) _ _ _ _ _ _ key_is version_is iv_is commitment_is tag_is)
      ∙ sym (text_joined form key version iv (slice_range bytes (text_at form) text_to) tag);
}

-- the version that stands in a blob
pub version_told : (bytes : List ℕ) (form : Form) (key : List ℕ) (version : ℕ) (iv text tag : List ℕ) → IsBlobText bytes form key version iv text tag
    → from_be_bytes w32 (slice_range bytes 17 21) ≡ version
version_told bytes form key version iv text tag is =
    ap (from_be_bytes w32) (told bytes form key version iv text tag is).version_at
    ∙ from_be_bytes-to_be_bytes_4 version is.version_fits

-- two forms that begin alike are the same but for the commitment
pub same_place : (form form' : Form) → form_byte form ≡ form_byte form' → text_at form ≡ text_at form'
same_place form_one form_one same = refl
same_place form_one (form_two commitment) same = absurd (omega (arith, same))
same_place (form_two commitment) form_one same = absurd (omega (arith, same))
same_place (form_two commitment) (form_two commitment') same = refl

pub same_form : (form form' : Form) → form_byte form ≡ form_byte form' → commitment_in form ≡ commitment_in form' → form ≡ form'
same_form form_one form_one same commitment_is = refl
same_form form_one (form_two commitment) same commitment_is = absurd (omega (arith, same))
same_form (form_two commitment) form_one same commitment_is = absurd (omega (arith, same))
same_form (form_two commitment) (form_two commitment') same commitment_is = ap form_two commitment_is

-- where the ciphertext of a blob begins, given how its bytes begin
pub begun : (bytes : List ℕ) (byte : ℕ) (commitment : List ℕ) (place : ℕ) (form : Form) (key : List ℕ) (version : ℕ) (iv text tag : List ℕ)
    → Begins bytes byte commitment place → IsBlobText bytes form key version iv text tag → text_at form ≡ place
begun bytes byte commitment place form key version iv text tag begins is =
    let first = (told bytes form key version iv text tag is).first_is in
    same_place form (form_said byte commitment) (sym first ∙ begins.first ∙ begins.form) ∙ sym begins.text_from

-- two readings of one blob agree
pub same_value : (bytes : List ℕ) (form form' : Form) (key key' : List ℕ) (version version' : ℕ) (iv iv' text text' tag tag' : List ℕ)
    → IsBlobText bytes form key version iv text tag → IsBlobText bytes form' key' version' iv' text' tag'
    → (form ≡ form') × (key ≡ key') × (version ≡ version') × (iv ≡ iv') × (text ≡ text') × (tag ≡ tag')
same_value bytes form form' key key' version version' iv iv' text text' tag tag' is is' =
    let one = told bytes form key version iv text tag is in
    let two = told bytes form' key' version' iv' text' tag' is' in
    let first : form_byte form ≡ form_byte form' = sym one.first_is ∙ two.first_is in
    let from : text_at form ≡ text_at form' = same_place form form' first in
    let commitment : commitment_in form ≡ commitment_in form' =
    sym one.commitment_at ∙ ap (λ (n : ℕ). slice_range bytes 33 n) from ∙ two.commitment_at in
    let to : text_at form + length text ≡ text_at form' + length text' = omega (arith, one.size, two.size, from) in (
      same_form form form' first commitment,
      sym one.key_at ∙ two.key_at,
      sym (version_told bytes form key version iv text tag is) ∙ version_told bytes form' key' version' iv' text' tag' is',
      sym one.iv_at ∙ two.iv_at,
      sym one.text_at ∙ ap (λ (n : ℕ). slice_range bytes n (text_at form + length text)) from ∙ ap (slice_range bytes (text_at form')) to ∙ two.text_at,
      sym one.tag_at ∙ ap (λ (n : ℕ). drop n bytes) to ∙ two.tag_at,
    )

blob_is : (blob : Blob) (form : ℕ) (key : List ℕ) (version : ℕ) (iv commitment tag : List ℕ) (from to : ℕ)
    → blob.form ≡ form → blob.key ≡ key → blob.version ≡ version → blob.iv ≡ iv → blob.commitment ≡ commitment → blob.text_from ≡ from → blob.text_to ≡ to → blob.tag ≡ tag
    → blob ≡ record { form = form; key = key; version = version; iv = iv; commitment = commitment; text_from = from; text_to = to; tag = tag }
blob_is blob form key version iv commitment tag from to form_is key_is version_is iv_is commitment_is from_is to_is tag_is =
    rw (← form_is, ← key_is, ← version_is, ← iv_is, ← commitment_is, ← from_is, ← to_is, ← tag_is) refl

-- what is read of a value's blob is the value
pub read_again : (bytes : List ℕ) (form : Form) (key : List ℕ) (version : ℕ) (iv text tag : List ℕ) (answer : Option Blob)
    → IsBlobText bytes form key version iv text tag → Reads bytes answer
    → answer ≡ Some (record { form = form_byte form; key = key; version = version; iv = iv; commitment = commitment_field form; text_from = text_at form; text_to = text_at form + length text; tag = tag })
read_again bytes form key version iv text tag None is reads = absurd (reads form key version iv text tag is)
read_again bytes form key version iv text tag (Some blob) is reads =
    let same = same_value bytes (form_of blob) form blob.key key blob.version version blob.iv iv _ text blob.tag tag reads.parts is in
    let size = (told bytes form key version iv text tag is).size in
    let ends : blob.text_to ≡ text_at form + length text = omega (arith, size, reads.text_to) in
    ap (λ (b : Blob). Some b)
    (blob_is blob (form_byte form) key version iv (commitment_field form) tag (text_at form) (text_at form + length text)
    (reads.form ∙ ap form_byte same.0) same.1 same.2 same.3 (reads.commitment ∙ ap commitment_field same.0) (reads.text_from ∙ ap text_at same.0) ends same.5)
