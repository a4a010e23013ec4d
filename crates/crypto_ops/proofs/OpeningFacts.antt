-- What is read of a blob when it is opened.
use Rattle.std.proofs.Common.{◌≡◌, ◌↔◌, ℕ, ◌+◌, ◌-◌, ◌≤◌, List, [], ◌∷◌, ◌++◌, length, take, drop, Bool, true, false, if◌then◌else◌, refl, sym, ap, ◌∙◌, subst, inl, inr, Option, Some, None, append_assoc, arith, length-append}
use Rattle.std.specs.Prelude.{slice_range, option_and_then, IsSome}
use Rattle.std.specs.Int.{w32, to_be_bytes}
use Rattle.std.specs.Str.{bytes_eq}
use Rattle.std.proofs.lemmas.List.{take_at}
use Rattle.std.proofs.lemmas.Bool.{cases_Bool, false≢true}
use Rattle.std.proofs.lemmas.Bool.Decides.{not_from_Decides}
use Rattle.std.proofs.lemmas.Slice.Eq.{bytes_eq-Decides}
use Rattle.blob_format.specs.Blob.{Form, form_one, form_two, head_size, text_at, commitment_in, blob_start, blob_head, blob_text, IsBlobText}
use Rattle.blob_format.specs.Reading.{IsBlobOf, form_of}
use Rattle.blob_format.specs.Names.{form_in, name_in}
use Rattle.blob_format.specs.declared.reading.Blob.{Blob}
use Rattle.blob_format.proofs.BlobFacts.{told, version_told, part_size}
use Rattle.blob_format.proofs.BlobNames.{blob_form, form_said_in, sized_form}
use Rattle.enc_context.specs.declared.pairs.Pair.{Pair}
use Rattle.enc_context.specs.Encoding.{encoding_of}
use Rattle.enc_context.proofs.PairFacts.{in_one_order}
use Rattle.mac_sha.proofs.HmacFacts.{hmac_length}
use Rattle.gcm_seal.specs.Gcm.{sealed_text, opened_text, tag_of, open_of}
use Rattle.gcm_seal.proofs.SealFacts.{length-sealed_text, length-opened_text, length-tag_of, opens_sealed, opens_nothing, open_of-authentic}
use Rattle.crypto_ops.specs.Material.{material_of, blob_key, data_key, commitment_of}
use Rattle.crypto_ops.specs.Sealed.{additional_data, sealed_by, sealed, sealed_one, has_commitment, opened_as, opened}
use Rattle.crypto_ops.specs.Laws.{CanSeal, HasCommitment, SealedIsABlob, SealedOneIsABlob, SealedOpensAgain, SealedOneOpensAgain, OpensByItsTag, OpensUnderOneCommitment, OpensUnderOneKey}

start_size : (byte : ℕ) (id : List ℕ) (version : ℕ) → length id ≡ 16 → length (blob_start byte id version) ≡ 21
start_size byte id version is = omega (arith, length-append (byte ∷ id) (to_be_bytes w32 version), is)

-- a blob begins with its head
head_told : (bytes : List ℕ) (form : Form) (id : List ℕ) (version : ℕ) (iv text tag : List ℕ) → IsBlobText bytes form id version iv text tag
    → take (head_size form) bytes ≡ blob_head form id version iv
unfolding blob_text
head_told bytes form_one id version iv text tag is =
    let start : List ℕ = blob_start 1 id version in
    let spelled : bytes ≡ start ++ (iv ++ (text ++ tag)) = is.spelling ∙ append_assoc (start ++ iv) text tag ∙ append_assoc start iv (text ++ tag) in
    ap (take 21) spelled ∙ take_at start (iv ++ (text ++ tag)) 21 (start_size 1 id version is.key_size)
head_told bytes (form_two commitment) id version iv text tag is =
    let start : List ℕ = blob_start 2 id version in
    let head : List ℕ = start ++ iv ++ commitment in
    let size : length head ≡ 65 = omega (arith, length-append (start ++ iv) commitment, length-append start iv, start_size 2 id version is.key_size, is.iv_size, is.commitment_size) in
    let spelled : bytes ≡ head ++ (text ++ tag) = is.spelling ∙ append_assoc head text tag in
    ap (take 65) spelled ∙ take_at head (text ++ tag) 65 size

-- what opening answers, of what a blob says
abbrev pub opened_by : Form → List ℕ → List ℕ → List ℕ → List ℕ → List ℕ → Option (List ℕ)
opened_by form key iv additional text tag = if has_commitment form key then open_of key iv additional text tag else None

same_open : (root : List ℕ) (form : Form) (id id' : List ℕ) (version version' : ℕ) (iv iv' head head' : List ℕ) (pairs : List Pair) (text text' tag tag' : List ℕ)
    → id ≡ id' → version ≡ version' → iv ≡ iv' → head ≡ head' → text ≡ text' → tag ≡ tag'
    → opened_by form (data_key form (material_of root id version) iv) iv (additional_data head pairs) text tag
    ≡ opened_by form (data_key form (material_of root id' version') iv') iv' (additional_data head' pairs) text' tag'
same_open root form id id' version version' iv iv' head head' pairs text text' tag tag' e1 e2 e3 e4 e5 e6 =
    λ i. opened_by form (data_key form (material_of root (e1 i) (e2 i)) (e3 i)) (e3 i) (additional_data (e4 i) pairs) (e5 i) (e6 i)

-- a blob is opened by what it says
pub opened_blob : (root bytes : List ℕ) (form : Form) (id : List ℕ) (version : ℕ) (iv text tag : List ℕ) (pairs : List Pair)
    → IsBlobText bytes form id version iv text tag
    → opened root bytes pairs ≡ opened_by form (data_key form (material_of root id version) iv) iv (additional_data (blob_head form id version iv) pairs) text tag
unfolding opened
opened_blob root bytes form id version iv text tag pairs is =
    let parts = told bytes form id version iv text tag is in
    let ends : length bytes - 16 ≡ text_at form + length text = omega (arith, parts.size) in
    ap (option_and_then (λ (f : Form). opened_as f root bytes pairs)) (blob_form bytes form id version iv text tag is)
    ∙ same_open root form _ id _ version _ iv _ (blob_head form id version iv) pairs _ text _ tag
    parts.key_at (version_told bytes form id version iv text tag is) parts.iv_at (head_told bytes form id version iv text tag is)
    (ap (λ (n : ℕ). slice_range bytes (text_at form) n) ends ∙ parts.text_at) (ap (λ (n : ℕ). drop n bytes) ends ∙ parts.tag_at)

-- the same of what a blob was read as, where each part is known by an equation
pub opened_read : (root bytes : List ℕ) (blob : Blob) (pairs : List Pair) (key additional text : List ℕ) (found : Bool) → IsBlobOf bytes blob
    → key ≡ data_key (form_of blob) (material_of root blob.key blob.version) blob.iv → found ≡ has_commitment (form_of blob) key
    → additional ≡ additional_data (take (head_size (form_of blob)) bytes) pairs → text ≡ slice_range bytes blob.text_from blob.text_to
    → opened root bytes pairs ≡ (if found then open_of key blob.iv additional text blob.tag else None)
opened_read root bytes blob pairs key additional text found is key_is found_is additional_is text_is =
    let head = head_told bytes (form_of blob) blob.key blob.version blob.iv _ blob.tag is.parts in
    let authenticated : additional_data (blob_head (form_of blob) blob.key blob.version blob.iv) pairs ≡ additional =
    ap (λ (h : List ℕ). additional_data h pairs) (sym head) ∙ sym additional_is in
    opened_blob root bytes (form_of blob) blob.key blob.version blob.iv _ blob.tag pairs is.parts
    ∙ (λ i. opened_by (form_of blob) (sym key_is i) blob.iv (authenticated i) (sym text_is i) blob.tag)
    ∙ ap (λ (b : Bool). if b then open_of key blob.iv additional text blob.tag else None) (sym found_is)

-- nothing comes of a blob with another commitment
pub opened_nothing : (root bytes : List ℕ) (blob : Blob) (pairs : List Pair) (key : List ℕ) (found : Bool) → IsBlobOf bytes blob
    → key ≡ data_key (form_of blob) (material_of root blob.key blob.version) blob.iv → found ≡ has_commitment (form_of blob) key → found ≡ false
    → opened root bytes pairs ≡ None
opened_nothing root bytes blob pairs key found is key_is found_is none =
    let additional : List ℕ = additional_data (take (head_size (form_of blob)) bytes) pairs in
    let text : List ℕ = slice_range bytes blob.text_from blob.text_to in
    opened_read root bytes blob pairs key additional text found is key_is found_is refl refl
    ∙ ap (λ (b : Bool). if b then open_of key blob.iv additional text blob.tag else None) none

-- the head lies in the bytes, before the ciphertext
pub head_within : (bytes : List ℕ) (blob : Blob) → IsBlobOf bytes blob → (head_size (form_of blob) ≤ length bytes) × (head_size (form_of blob) ≤ 65)
head_within bytes blob is =
    let size = (told bytes (form_of blob) blob.key blob.version blob.iv _ blob.tag is.parts).size in
    let place = before_text (form_of blob) in
    (omega (arith, size, place.0), place.1)
  where
    before_text : (form : Form) → (head_size form ≤ text_at form) × (head_size form ≤ 65)
    before_text form_one = (omega arith, omega arith)
    before_text (form_two commitment) = (omega arith, omega arith)

-- ---- what is sealed

commitment_size : (key : List ℕ) → 33 + length (commitment_of key) ≡ 65
unfolding commitment_of
commitment_size key = ap (λ (n : ℕ). 33 + n) (hmac_length key _)

-- a text that is sealed in a form is a blob of it
formed : (form : Form) (key id : List ℕ) (version : ℕ) (iv : List ℕ) (pairs : List Pair) (text : List ℕ) → CanSeal id version iv text → 33 + length (commitment_in form) ≡ text_at form
    → IsBlobText (sealed_by form key id version iv pairs text) form id version iv (sealed_text key iv text)
    (tag_of key iv (additional_data (blob_head form id version iv) pairs) (sealed_text key iv text))
formed form key id version iv pairs text can committed =
    let size = length-sealed_text key iv text in
    record {
      key_size = can.id_size;
      version_from_one = can.version_from_one;
      version_fits = can.version_fits;
      iv_size = can.iv_size;
      commitment_size = committed;
      text_given = rw size can.text_given;
      text_fits = rw size can.text_fits;
      tag_size = length-tag_of key iv (additional_data (blob_head form id version iv) pairs) (sealed_text key iv text);
      spelling = refl;
    }

-- what is written as a blob, where each part is known by an equation
pub sealed_written : (form : Form) (key id : List ℕ) (version : ℕ) (iv : List ℕ) (pairs : List Pair) (text empty head whole additional plain ciphertext written tag : List ℕ)
    → empty ≡ [] → head ≡ empty ++ blob_head form id version iv → whole ≡ head ++ encoding_of pairs → additional ≡ whole → plain ≡ text
    → ciphertext ≡ sealed_text key iv plain → written ≡ ciphertext → tag ≡ tag_of key iv additional ciphertext
    → blob_text form id version iv written tag ≡ sealed_by form key id version iv pairs text
unfolding additional_data
sealed_written form key id version iv pairs text empty head whole additional plain ciphertext written tag empty_is head_is whole_is additional_is plain_is ciphertext_is written_is tag_is =
    rw (written_is, tag_is, ciphertext_is, plain_is, additional_is, whole_is, head_is, empty_is) refl

pub sealed_two_is : (root id : List ℕ) (version : ℕ) (iv : List ℕ) (pairs : List Pair) (text material key commitment : List ℕ)
    → material ≡ material_of root id version → key ≡ blob_key material iv → commitment ≡ commitment_of key
    → sealed_by (form_two commitment) key id version iv pairs text ≡ sealed root id version iv pairs text
unfolding sealed
sealed_two_is root id version iv pairs text material key commitment material_is key_is commitment_is = rw (commitment_is, key_is, material_is) refl

pub sealed_one_is : (root id : List ℕ) (version : ℕ) (iv : List ℕ) (pairs : List Pair) (text key : List ℕ) → key ≡ material_of root id version
    → sealed_by form_one key id version iv pairs text ≡ sealed_one root id version iv pairs text
unfolding sealed_one
sealed_one_is root id version iv pairs text key key_is = rw key_is refl

pub sealed_form : (root id : List ℕ) (version : ℕ) (iv : List ℕ) (pairs : List Pair) (text : List ℕ) → CanSeal id version iv text
    → let key = blob_key (material_of root id version) iv in
    let form = form_two (commitment_of key) in
    IsBlobText (sealed root id version iv pairs text) form id version iv (sealed_text key iv text)
    (tag_of key iv (additional_data (blob_head form id version iv) pairs) (sealed_text key iv text))
unfolding sealed
sealed_form root id version iv pairs text can =
    let key = blob_key (material_of root id version) iv in
    formed (form_two (commitment_of key)) key id version iv pairs text can (commitment_size key)

pub sealed_one_form : (root id : List ℕ) (version : ℕ) (iv : List ℕ) (pairs : List Pair) (text : List ℕ) → CanSeal id version iv text
    → let key = material_of root id version in
    IsBlobText (sealed_one root id version iv pairs text) form_one id version iv (sealed_text key iv text)
    (tag_of key iv (additional_data (blob_head form_one id version iv) pairs) (sealed_text key iv text))
unfolding sealed_one
sealed_one_form root id version iv pairs text can = formed form_one (material_of root id version) id version iv pairs text can refl

pub sealed_blob : SealedIsABlob
sealed_blob root id version iv pairs text can =
    let key = blob_key (material_of root id version) iv in
    (_, _, length-sealed_text key iv text, sealed_form root id version iv pairs text can)

pub sealed_one_blob : SealedOneIsABlob
sealed_one_blob root id version iv pairs text can =
    let key = material_of root id version in
    (_, _, length-sealed_text key iv text, sealed_one_form root id version iv pairs text can)

-- the commitment to a key is that of the key
own_commitment : (key : List ℕ) → bytes_eq (commitment_of key) (commitment_of key) ≡ true
own_commitment key = (bytes_eq-Decides (commitment_of key) (commitment_of key)).1 refl

-- what was sealed opens
pub opens_two : (root id : List ℕ) (version : ℕ) (iv : List ℕ) (pairs : List Pair) (text : List ℕ) → CanSeal id version iv text
    → opened root (sealed root id version iv pairs text) pairs ≡ Some text
opens_two root id version iv pairs text can =
    let key = blob_key (material_of root id version) iv in
    let form = form_two (commitment_of key) in
    opened_blob root (sealed root id version iv pairs text) form id version iv _ _ pairs (sealed_form root id version iv pairs text can)
    ∙ ap (λ (b : Bool). if b then open_of key iv (additional_data (blob_head form id version iv) pairs) (sealed_text key iv text)
    (tag_of key iv (additional_data (blob_head form id version iv) pairs) (sealed_text key iv text)) else None) (own_commitment key)
    ∙ opens_sealed key iv (additional_data (blob_head form id version iv) pairs) text

pub opens_one : (root id : List ℕ) (version : ℕ) (iv : List ℕ) (pairs : List Pair) (text : List ℕ) → CanSeal id version iv text
    → opened root (sealed_one root id version iv pairs text) pairs ≡ Some text
opens_one root id version iv pairs text can =
    opened_blob root (sealed_one root id version iv pairs text) form_one id version iv _ _ pairs (sealed_one_form root id version iv pairs text can)
    ∙ opens_sealed (material_of root id version) iv (additional_data (blob_head form_one id version iv) pairs) text

pub sealed_again : SealedOpensAgain
sealed_again root id version iv pairs pairs' text can is is' same =
    let one : pairs' ≡ pairs = sym (in_one_order pairs pairs' is.in_order is'.in_order same) in
    ap (opened root (sealed root id version iv pairs text)) one ∙ opens_two root id version iv pairs text can

pub sealed_one_again : SealedOneOpensAgain
sealed_one_again root id version iv pairs pairs' text can is is' same =
    let one : pairs' ≡ pairs = sym (in_one_order pairs pairs' is.in_order is'.in_order same) in
    ap (opened root (sealed_one root id version iv pairs text)) one ∙ opens_one root id version iv pairs text can

-- ---- what opens

commitment_test : (form : Form) (key : List ℕ) → (has_commitment form key ≡ true) ↔ HasCommitment form key
commitment_test form_one key = (λ e. tt, λ t. refl)
commitment_test (form_two commitment) key = bytes_eq-Decides commitment (commitment_of key)

-- a ciphertext opens exactly where its tag is the right one
by_its_tag : (key iv additional ciphertext tag : List ℕ) → IsSome (open_of key iv additional ciphertext tag) ↔ (tag ≡ tag_of key iv additional ciphertext)
by_its_tag key iv additional ciphertext tag =
    let right = tag_of key iv additional ciphertext in (
      λ (some : IsSome (open_of key iv additional ciphertext tag)). elim (cases_Bool (bytes_eq tag right)) [
        | inl same ↦ (bytes_eq-Decides tag right).0 same
        | inr differs ↦
            absurd (false≢true (subst (λ (o : Option (List ℕ)). IsSome o) (opens_nothing key iv additional ciphertext tag
            (not_from_Decides (bytes_eq tag right) (bytes_eq-Decides tag right) differs)) some))
      ],
      λ (same : tag ≡ right). subst (λ (o : Option (List ℕ)). IsSome o) (sym (open_of-authentic key iv additional ciphertext tag same)) refl,
    )

-- both tests have to be met
by_both : (found : Bool) (answer : Option (List ℕ)) (P Q : Type 0) → (found ≡ true) ↔ P → IsSome answer ↔ Q
    → IsSome (if found then answer else None) ↔ (P × Q)
by_both true answer P Q first second = (λ some. (first.0 refl, second.0 some), λ both. second.1 both.1)
by_both false answer P Q first second = (λ some. absurd (false≢true some), λ both. absurd (false≢true (first.1 both.0)))

pub opened_by_tag : OpensByItsTag
opened_by_tag root bytes form id version iv ciphertext tag pairs is =
    let key = data_key form (material_of root id version) iv in
    let additional = additional_data (blob_head form id version iv) pairs in
    let head_is = head_told bytes form id version iv ciphertext tag is in
    let answer = opened_blob root bytes form id version iv ciphertext tag pairs is in
    rw (head_is, answer)
    (by_both (has_commitment form key) (open_of key iv additional ciphertext tag) (HasCommitment form key) (tag ≡ tag_of key iv additional ciphertext)
    (commitment_test form key) (by_its_tag key iv additional ciphertext tag))

pub one_commitment : OpensUnderOneCommitment
one_commitment root root' bytes id version iv commitment ciphertext tag pairs pairs' is some some' =
    let one = (opened_by_tag root bytes (form_two commitment) id version iv ciphertext tag pairs is).0 some in
    let two = (opened_by_tag root' bytes (form_two commitment) id version iv ciphertext tag pairs' is).0 some' in
    sym one.0 ∙ two.0

pub one_key : OpensUnderOneKey
one_key root root' bytes id version iv commitment ciphertext tag pairs pairs' is some some' =
    let key = blob_key (material_of root id version) iv in
    let key' = blob_key (material_of root' id version) iv in
    elim (cases_Bool (bytes_eq key key')) [
      | inl same ↦ inl ((bytes_eq-Decides key key').0 same)
      | inr differs ↦ inr (record {
        differ = not_from_Decides (bytes_eq key key') (bytes_eq-Decides key key') differs;
        one = one_commitment root root' bytes id version iv commitment ciphertext tag pairs pairs' is some some';
      })
    ]

-- ---- the size of what opens

some_size : (b : Bool) (plain text : List ℕ) → (if b then Some plain else None) ≡ Some text → length text ≡ length plain
some_size true plain text e = let same : plain ≡ text = cc in sym (ap (λ (t : List ℕ). length t) same)
some_size false plain text e = cc

size_of_opened : (key iv additional ciphertext tag text : List ℕ) → open_of key iv additional ciphertext tag ≡ Some text → length text ≡ length ciphertext
unfolding open_of
size_of_opened key iv additional ciphertext tag text e =
    some_size (bytes_eq tag (tag_of key iv additional ciphertext)) (opened_text key iv ciphertext) text e ∙ length-opened_text key iv ciphertext

size_by : (found : Bool) (key iv additional ciphertext tag text : List ℕ) → (if found then open_of key iv additional ciphertext tag else None) ≡ Some text
    → length text ≡ length ciphertext
size_by true key iv additional ciphertext tag text e = size_of_opened key iv additional ciphertext tag text e
size_by false key iv additional ciphertext tag text e = cc

size_said : (root bytes : List ℕ) (pairs : List Pair) (text : List ℕ) (said : Option Form) → form_in bytes ≡ said
    → option_and_then (λ (f : Form). opened_as f root bytes pairs) said ≡ Some text → (1 ≤ length text) × (length text ≤ 4096)
size_said root bytes pairs text (Some form) is e =
    let sized = sized_form bytes form (form_said_in bytes form is) in
    let key = data_key form (material_of root (name_in bytes).key (name_in bytes).version) (slice_range bytes 21 33) in
    let size = size_by (has_commitment form key) key _ _ (slice_range bytes (text_at form) (length bytes - 16)) _ text e in
    let ends = part_size bytes (text_at form) (length bytes - 16) (omega arith) in
    (omega (arith, sized.from, size, ends), omega (arith, sized.to, size, ends))
size_said root bytes pairs text None is e = cc

-- a text that bytes open to has 1 to 4,096 bytes
pub opened_size : (root bytes : List ℕ) (pairs : List Pair) (text : List ℕ) → opened root bytes pairs ≡ Some text → (1 ≤ length text) × (length text ≤ 4096)
unfolding opened
opened_size root bytes pairs text e = size_said root bytes pairs text (form_in bytes) refl e
