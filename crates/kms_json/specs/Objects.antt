-- A JSON object as the list of its members.
use Rattle.std.specs.Prelude.{ℕ, List, map, codes, Option, Some, None, option_map}
use Rattle.base64.specs.Engines.{standard}
use Rattle.base64.specs.GeneralPurpose.{encode_of}
use Rattle.serde_json.specs.Data.{Data, Members, member, put, string, number, unsigned, boolean, array, item, no_items}
use Rattle.serde_json.specs.View.{items_of}
use Rattle.kms_json.specs.declared.objects.Item.{Item}
use Rattle.kms_json.specs.declared.objects.Item.TheVariants.{Text, Base64, Number, Flag, OneText, OneTextIfAny, NumberIfAny, TextIfAny}

-- the name of the one key spec, and of the one algorithm, of symmetric keys
abbrev pub symmetric_default : List ℕ
symmetric_default = codes "SYMMETRIC_DEFAULT"

-- the name of the one algorithm of HMAC keys
abbrev pub hmac_sha_256 : List ℕ
hmac_sha_256 = codes "HMAC_SHA_256"

-- bytes as the text of their base64 in the standard alphabet, with padding (RFC 4648, section 4)
unfoldable pub base64_text : List ℕ → List ℕ
base64_text bytes = encode_of standard bytes

-- a member that is a text
abbrev pub with_text : List ℕ → List ℕ → Members → Members
with_text name text more = member name (string text) more

-- a number
abbrev pub number_data : ℕ → Data
number_data n = number (unsigned n)

-- a list of one text
abbrev pub one_text : List ℕ → Data
one_text text = array (item (string text) no_items)

-- a member with a value, if there is one
abbrev pub with_any : List ℕ → Option Data → Members → Members
with_any name None more = more
with_any name (Some d) more = member name d more

abbrev pub item_data : Item → Option Data
item_data (Text text) = Some (string text.now)
item_data (Base64 bytes) = Some (string (base64_text bytes.now))
item_data (Number n) = Some (number_data n)
item_data (Flag b) = Some (boolean b)
item_data (OneText text) = Some (one_text text.now)
item_data (OneTextIfAny text) = option_map one_text (option_map (λ t. t.now) text)
item_data (NumberIfAny n) = option_map number_data n
item_data (TextIfAny text) = option_map (λ t. string t.now) text

-- a value, put in where it is one
abbrev pub put_any : List ℕ → Option Data → Members → Members
put_any name None members = members
put_any name (Some d) members = put name d members

-- the list of these rows
abbrev pub list_data : {A : Type 0} → (A → Data) → List A → Data
list_data row_data rows = array (items_of (map row_data rows))
