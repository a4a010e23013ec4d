-- What the reader makes of the values of a line's object, before it writes what it made again and compares: other
-- spellings are read here too, and fall at the comparison.
use Rattle.std.specs.Prelude.{ℕ, List, [], ◌∷◌, nat_lt, if◌then◌else◌, codes, Option, Some, None, option_map, option_and_then}
use Rattle.std.specs.Result.{result_ok}
use Rattle.std.specs.Str.{bytes_eq, is_utf8}
use Rattle.hex.specs.Hex.{decode_sized}
use Rattle.base64.specs.Engines.{standard}
use Rattle.base64.specs.GeneralPurpose.{decoded_of}
use Rattle.hmac_keys.specs.declared.kinds.KeyKind.{KeyKind}
use Rattle.hmac_keys.specs.declared.kinds.KeyKind.TheVariants.{Symmetric, Hmac256}
use Rattle.kms_names.specs.GrantOps.{those, is_named}
use Rattle.kms_names.specs.Reading.{some_if, alias_of, principal_of}
use Rattle.kms_names.specs.declared.principals.Principal.{Principal}
use Rattle.enc_context.specs.declared.pairs.Pair.{Pair}
use Rattle.resource_tags.specs.declared.tags.Tag.{Tag}
use Rattle.serde_json.specs.Data.{Data, Items, no_items, item}
use Rattle.serde_json.specs.Find.{get, as_str, as_array, as_number, as_u64}
use Rattle.kms_json.specs.Fields.{texts_in_items}
use Rattle.journal_lines.specs.Contexts.{context_of}

-- bytes that are UTF-8
abbrev pub text_of : List ℕ → Option (List ℕ)
text_of bytes = some_if (is_utf8 bytes) bytes

-- the bytes of a base64 text
abbrev pub bytes_in : Data → Option (List ℕ)
bytes_in d = option_and_then (decoded_of standard) (as_str d)

abbrev pub text_in : Data → Option (List ℕ)
text_in d = option_and_then text_of (bytes_in d)

-- so many bytes of hex digits
abbrev pub id_in : ℕ → Data → Option (List ℕ)
id_in size d = option_and_then (λ text. result_ok (decode_sized text size)) (as_str d)

-- a number of 64 bits, and one of 32
abbrev pub number_in : Data → Option ℕ
number_in d = option_and_then as_u64 (as_number d)

abbrev pub small_in : Data → Option ℕ
small_in d = option_and_then (λ n. some_if (nat_lt n 4294967296) n) (number_in d)

abbrev pub alias_in : Data → Option (List ℕ)
alias_in d = option_and_then (λ text. result_ok (alias_of text)) (text_in d)

abbrev pub principal_in : Data → Option Principal
principal_in d = option_and_then principal_of (text_in d)

abbrev pub kind_named : List ℕ → Option KeyKind
kind_named name =
    if bytes_eq name (codes "symmetric") then Some Symmetric
    else if bytes_eq name (codes "hmac256") then Some Hmac256
    else None

abbrev pub kind_in : Data → Option KeyKind
kind_in d = option_and_then kind_named (as_str d)

-- what a member holds
abbrev pub at : {A : Type 0} → (Data → Option A) → List ℕ → Data → Option A
at read name d = option_and_then read (get name d)

-- what a member holds that may be left out
abbrev pub read_if : {A : Type 0} → (Data → Option A) → Option Data → Option (Option A)
read_if read None = Some None
read_if read (Some d) = option_map Some (read d)

abbrev pub tag_in : Data → Option Tag
tag_in d = option_and_then (λ key. option_map (λ value. record { key = key; value = value }) (at text_in (codes "value") d)) (at text_in (codes "key") d)

abbrev pub tags_of : Items → Option (List Tag)
tags_of no_items = Some []
tags_of (item d ds) = option_and_then (λ tag. option_map (λ tags. tag ∷ tags) (tags_of ds)) (tag_in d)

abbrev pub tags_in : Data → Option (List Tag)
tags_in d = option_and_then tags_of (as_array d)

abbrev pub texts_of : Items → Option (List (List ℕ))
texts_of no_items = Some []
texts_of (item d ds) = option_and_then (λ text. option_map (λ texts. text ∷ texts) (texts_of ds)) (text_in d)

abbrev pub texts_in : Data → Option (List (List ℕ))
texts_in d = option_and_then texts_of (as_array d)

-- the set of the operations that are named
abbrev pub operations_in : Data → Option ℕ
operations_in d = option_map (λ names. those (is_named names)) (option_and_then texts_in_items (as_array d))

abbrev pub context_in : Data → Option (List Pair)
context_in d = option_and_then context_of (bytes_in d)
