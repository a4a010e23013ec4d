-- What is written of an entry's parts reads back as them.
use Rattle.std.proofs.Common.{◌≡◌, ℕ, suc, List, [], ◌∷◌, map, Bool, true, false, Option, Some, IsUtf8, refl, sym, ap, ◌∙◌, arith}
use Rattle.std.specs.Prelude.{All}
use Rattle.std.specs.Option.{option_map, option_and_then}
use Rattle.std.specs.Result.{result_ok}
use Rattle.std.specs.Str.{is_utf8}
use Rattle.base64.specs.Engines.{standard}
use Rattle.base64.specs.GeneralPurpose.{IsBytes, decoded_of}
use Rattle.base64.proofs.EngineFacts.{decode_of-encode_of}
use Rattle.hex.proofs.HexLemmas.{decode_sized-encode_lower}
use Rattle.hmac_keys.specs.declared.kinds.KeyKind.{KeyKind}
use Rattle.hmac_keys.specs.declared.kinds.KeyKind.TheVariants.{Symmetric, Hmac256}
use Rattle.kms_names.specs.Alias.{IsAliasName}
use Rattle.kms_names.specs.Principal.{IsPrincipal, principal_text}
use Rattle.kms_names.specs.declared.principals.Principal.{Principal}
use Rattle.kms_names.specs.Reading.{some_if, alias_of, principal_of}
use Rattle.kms_names.specs.Identifier.{IsByteList}
use Rattle.resource_tags.specs.declared.tags.Tag.{Tag}
use Rattle.serde_json.specs.Data.{string}
use Rattle.serde_json.specs.View.{items_of}
use Rattle.kms_json.specs.Objects.{base64_text}
use Rattle.journal_lines.specs.Values.{base64_data, hex_data, kind_name, principal_data, tag_data, tags_data, texts_data}
use Rattle.journal_lines.specs.Readings.{text_of, bytes_in, text_in, id_in, alias_in, principal_in, kind_in, tag_in, tags_of, tags_in, texts_of, texts_in}
use Rattle.journal_lines.specs.Forms.{IsTag}
use Rattle.journal_lines.proofs.ByteFacts.{from_all, from_utf8}
use Rattle.journal_lines.proofs.NameFacts.{alias_found, principal_found}
use Rattle.journal_lines.proofs.TextFacts.{utf8_decides}

-- ---- bytes

pub bytes_read : (bytes : List ℕ) → IsBytes bytes → bytes_in (base64_data bytes) ≡ Some bytes
unfolding base64_text decoded_of
bytes_read bytes are = ap result_ok (decode_of-encode_of standard bytes refl are)

pub id_read : (size : ℕ) (id : List ℕ) → IsByteList size id → id_in size (hex_data id) ≡ Some id
id_read size id form = ap result_ok (decode_sized-encode_lower id size form.0 (from_all id form.1))

-- ---- texts

if_some : {A : Type 0} (b : Bool) (x : A) → b ≡ true → some_if b x ≡ Some x
if_some true x e = refl
if_some false x e = cc

pub text_read : (text : List ℕ) → IsUtf8 text → text_in (base64_data text) ≡ Some text
text_read text u = ap (λ (o : Option (List ℕ)). option_and_then text_of o) (bytes_read text (from_utf8 text u)) ∙ if_some (is_utf8 text) text ((utf8_decides text).1 u)

pub alias_read : (name : List ℕ) → IsAliasName name → IsUtf8 name → alias_in (base64_data name) ≡ Some name
alias_read name form u = ap (λ (o : Option (List ℕ)). option_and_then (λ text. result_ok (alias_of text)) o) (text_read name u) ∙ sym (alias_found name name form refl)

pub principal_read : (p : Principal) → IsPrincipal p → IsUtf8 (principal_text p) → principal_in (principal_data p) ≡ Some p
principal_read p form u = ap (λ (o : Option (List ℕ)). option_and_then principal_of o) (text_read (principal_text p) u) ∙ sym (principal_found (principal_text p) p form refl)

pub kind_read : (kind : KeyKind) → kind_in (string (kind_name kind)) ≡ Some kind
kind_read Symmetric = refl
kind_read Hmac256 = refl

-- ---- lists

head_of : {A : Type 0} (P : A → Type 0) (x : A) (xs : List A) → All P (x ∷ xs) → P x
head_of P x xs h = h 0 x (omega arith)

rest_of : {A : Type 0} (P : A → Type 0) (x : A) (xs : List A) → All P (x ∷ xs) → All P xs
rest_of P x xs h = λ k d lt. h (suc k) d (omega arith)

tag_read : (tag : Tag) → IsTag tag → tag_in (tag_data tag) ≡ Some tag
tag_read tag form =
    ap (λ (o : Option (List ℕ)). option_and_then (λ key. option_map (λ value. record { key = key; value = value }) (text_in (base64_data tag.value))) o) (text_read tag.key form.0)
    ∙ ap (λ (o : Option (List ℕ)). option_map (λ value. record { key = tag.key; value = value }) o) (text_read tag.value form.1)

pub tags_read : (tags : List Tag) → All IsTag tags → tags_in (tags_data tags) ≡ Some tags
tags_read [] h = refl
tags_read (tag ∷ tags) h =
    ap (λ (o : Option Tag). option_and_then (λ tag. option_map (λ tags. tag ∷ tags) (tags_of (items_of (map tag_data tags)))) o) (tag_read tag (head_of IsTag tag tags h))
    ∙ ap (λ (o : Option (List Tag)). option_map (λ tags. tag ∷ tags) o) (tags_read tags (rest_of IsTag tag tags h))

pub texts_read : (texts : List (List ℕ)) → All IsUtf8 texts → texts_in (texts_data texts) ≡ Some texts
texts_read [] h = refl
texts_read (text ∷ texts) h =
    ap (λ (o : Option (List ℕ)). option_and_then (λ text. option_map (λ texts. text ∷ texts) (texts_of (items_of (map base64_data texts)))) o) (text_read text (head_of IsUtf8 text texts h))
    ∙ ap (λ (o : Option (List (List ℕ))). option_map (λ texts. text ∷ texts) o) (texts_read texts (rest_of IsUtf8 text texts h))
