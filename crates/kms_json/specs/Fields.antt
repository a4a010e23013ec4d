-- The fields of a request's body: what each may hold, what a body gives it, and which of them isn't valid.
use Rattle.std.specs.Prelude.{ℕ, List, [], ◌∷◌, length, nat_le, ◌==◌, ◌&&◌, ◌||◌, Bool, true, false, not, codes, if◌then◌else◌, Option, Some, None, option_map, option_and_then, unwrap_or, is_some, ℤ, pos, negsuc}
use Rattle.std.specs.Char.{is_ascii_alphanumeric}
use Rattle.std.specs.List.{list_all, list_any}
use Rattle.std.specs.Str.{bytes_eq, chars}
use Rattle.base64.specs.Engines.{standard}
use Rattle.base64.specs.GeneralPurpose.{decoded_of}
use Rattle.serde_json.specs.Data.{Data, null, Items, no_items, item, Members, no_members, member}
use Rattle.serde_json.specs.Find.{get, as_str, as_bool, as_array, as_object, as_number, as_integer}
use Rattle.kms_names.specs.GrantOps.{all_grant_ops, grant_op_name}
use Rattle.kms_names.specs.Reading.{is_alias_text}
use Rattle.enc_context.specs.declared.pairs.Pair.{Pair}
use Rattle.enc_context.specs.Encoding.{encoding_of}
use Rattle.resource_tags.specs.declared.tags.Tag.{Tag}
use Rattle.kms_json.specs.declared.asks.grants.GrantConstraint.{GrantConstraint}
use Rattle.kms_json.specs.declared.asks.grants.GrantConstraint.TheVariants as constraint
use Rattle.kms_json.specs.declared.fields.Kind.{Kind}
use Rattle.kms_json.specs.declared.fields.Kind.TheVariants as kind
use Rattle.kms_json.specs.declared.fields.Presence.{Presence}
use Rattle.kms_json.specs.declared.fields.Presence.TheVariants.{Required, Optional, InsteadOf, InsteadOfBoth}
use Rattle.kms_json.specs.declared.fields.Field.{Field}
use Rattle.kms_json.specs.declared.fields.FieldFault.{FieldFault}
use Rattle.kms_json.specs.declared.fields.FieldFault.TheVariants as fault
use Rattle.kms_json.specs.declared.given.Given.{Given}
use Rattle.kms_json.specs.declared.given.Given.TheVariants as given
use Rattle.kms_json.specs.declared.refusals.Refusal.{Refusal}
use Rattle.kms_json.specs.declared.refusals.Refusal.TheVariants as refusal
use Rattle.kms_json.specs.Given.{is_absent, is_there, text_in, texts_in, bytes_in, context_in, constraint_if, tags_if, whole_in}

-- whether a field is to be given: it is; it may be; it is exactly where the field of another name isn't; or it is where neither of two others is, and isn't
-- where both are
pub data Wanted : Type 0 where
  always : Wanted
  maybe : Wanted
  instead_of : List ℕ → Wanted
  instead_of_both : List ℕ → List ℕ → Wanted

-- a field's name, what its value may be, and whether it is to be given
pub record FieldRow : Type 0 where
  pub name : List ℕ
  pub kind : Kind
  pub wanted : Wanted

abbrev pub field : List ℕ → Kind → Wanted → FieldRow
field name kind wanted = record { name = name; kind = kind; wanted = wanted }

-- a reference to a key
abbrev pub key_reference : List ℕ → Wanted → FieldRow
key_reference name wanted = field name (kind.Text 1 2048) wanted

-- the tokens of grants
abbrev pub grant_tokens : FieldRow
grant_tokens = field (codes "GrantTokens") (kind.Texts 10) maybe

-- at most so many rows of a list behind a marker
abbrev pub page_of : ℕ → List FieldRow
page_of most = field (codes "Limit") (kind.Whole 1 most) maybe ∷ field (codes "Marker") (kind.Text 1 1024) maybe ∷ []

-- a principal
abbrev pub principal : List ℕ → Wanted → FieldRow
principal name wanted = field name (kind.Text 1 256) wanted

-- what belongs to a key
abbrev pub list_of_key : List FieldRow
list_of_key = key_reference (codes "KeyId") always ∷ page_of 1000

-- a key and nothing else
abbrev pub key_alone : List FieldRow
key_alone = key_reference (codes "KeyId") always ∷ []

abbrev pub wanted_by : Presence → Wanted
wanted_by Required = always
wanted_by Optional = maybe
wanted_by (InsteadOf other) = instead_of other.now
wanted_by (InsteadOfBoth one two) = instead_of_both one.now two.now

-- a row of the code's table
abbrev pub row_of : Field → FieldRow
row_of row = field row.0.now row.1 (wanted_by row.2)

-- a member is given where it is there and isn't null
abbrev pub is_given : Option Data → Bool
is_given None = false
is_given (Some null) = false
is_given (Some _) = true

-- bytes as the text of their base64 in the standard alphabet, with padding (RFC 4648, section 4)
abbrev pub bytes_of : Data → Option (List ℕ)
bytes_of d = option_and_then (decoded_of standard) (as_str d)

-- members that are all texts, as pairs
abbrev pub pairs_of : Members → Option (List Pair)
pairs_of no_members = Some []
pairs_of (member key d more) = option_and_then (λ value. option_map (λ pairs. record { key = key; value = value } ∷ pairs) (pairs_of more)) (as_str d)

abbrev pub texts_of : Data → Option (List Pair)
texts_of d = option_and_then pairs_of (as_object d)

-- a context of at most so many encoded bytes
abbrev pub fitting : ℕ → List Pair → Option (List Pair)
fitting most pairs = if nat_le (length (encoding_of pairs)) most then Some pairs else None

-- what a member is to a context, if it has its type; null counts as absent
abbrev pub context_of : Data → Option Given
context_of d = option_map (λ pairs. given.Context (fitting 8192 pairs)) (texts_of d)

abbrev pub context_given : Option Data → Option Given
context_given None = Some given.Absent
context_given (Some null) = Some given.Absent
context_given (Some d) = context_of d

-- the constraint of a grant that gives no part: a context to be equal, of at most 4,096 encoded bytes, or nothing
abbrev pub equals_or_free : Given → Option GrantConstraint
equals_or_free value = if is_absent value then Some constraint.Free else option_map constraint.Equals (option_and_then (fitting 4096) (context_in value))

-- the constraint by what is to be equal and what is to be a part: none where both are given
abbrev pub constraint_by : Given → Given → Option GrantConstraint
constraint_by equals subset =
    if is_absent subset then equals_or_free equals
    else if is_there equals then None
    else option_map constraint.Subset (option_and_then (fitting 4096) (context_in subset))

-- the constraint of an object; its unknown members are passed over
abbrev pub constraint_at : Data → Option Given
constraint_at d =
    option_and_then (λ equals. option_map (λ subset. given.Constraint (constraint_by equals subset)) (context_given (get (codes "EncryptionContextSubset") d)))
    (context_given (get (codes "EncryptionContextEquals") d))

abbrev pub constraint_of : Data → Option Given
constraint_of d = option_and_then (λ ms. constraint_at d) (as_object d)

-- items that are all texts
abbrev pub texts_in_items : Items → Option (List (List ℕ))
texts_in_items no_items = Some []
texts_in_items (item d ds) = option_and_then (λ text. option_map (λ texts. text ∷ texts) (texts_in_items ds)) (as_str d)

abbrev pub list_of_texts : Data → Option (List (List ℕ))
list_of_texts d = option_and_then texts_in_items (as_array d)

-- a number that isn't negative
abbrev pub natural : ℤ → Option ℕ
natural (pos n) = Some n
natural (negsuc n) = None

abbrev pub whole_of : Data → Option ℤ
whole_of d = option_and_then as_integer (as_number d)

-- what a member is to a tag: its text, where it is given, if it is a text then
abbrev pub text_given : Option Data → Option (Option (List ℕ))
text_given None = Some None
text_given (Some null) = Some None
text_given (Some d) = option_map Some (as_str d)

-- the tag of a key and a value, where both are given
abbrev pub tag_by : Option (List ℕ) → Option (List ℕ) → Option Tag
tag_by (Some key) (Some value) = Some record { key = key; value = value }
tag_by (Some key) None = None
tag_by None value = None

-- the tag of an object, where it has both; its unknown members are passed over
abbrev pub tag_at : Data → Option (Option Tag)
tag_at d = option_and_then (λ key. option_map (tag_by key) (text_given (get (codes "TagValue") d))) (text_given (get (codes "TagKey") d))

abbrev pub tag_of : Data → Option (Option Tag)
tag_of d = option_and_then (λ ms. tag_at d) (as_object d)

-- one more tag before others, where all are there
abbrev pub with_tag : Option Tag → Option (List Tag) → Option (List Tag)
with_tag (Some tag) (Some tags) = Some (tag ∷ tags)
with_tag (Some tag) None = None
with_tag None tags = None

-- items that are all tags by their types, as tags where each has its key and its value
abbrev pub tags_in_items : Items → Option (Option (List Tag))
tags_in_items no_items = Some (Some [])
tags_in_items (item d ds) = option_and_then (λ tag. option_map (with_tag tag) (tags_in_items ds)) (tag_of d)

abbrev pub list_of_tags : Data → Option (Option (List Tag))
list_of_tags d = option_and_then tags_in_items (as_array d)

-- what a JSON value is to a field of this kind, if it has the kind's type
abbrev pub value_of : Kind → Data → Option Given
value_of (kind.Text least most) d = option_map given.Text (as_str d)
value_of kind.SomeText d = option_map given.Text (as_str d)
value_of kind.AnyText d = option_map given.Text (as_str d)
value_of kind.AliasName d = option_map given.Text (as_str d)
value_of kind.PolicyName d = option_map given.Text (as_str d)
value_of kind.DataKeySpec d = option_map given.Text (as_str d)
value_of kind.GrantName d = option_map given.Text (as_str d)
value_of (kind.Texts most) d = option_map given.Texts (list_of_texts d)
value_of kind.GrantOperations d = option_map given.Texts (list_of_texts d)
value_of (kind.Bytes least most) d = option_map given.Bytes (bytes_of d)
value_of kind.Context d = context_of d
value_of kind.GrantConstraint d = constraint_of d
value_of kind.Tags d = option_map given.Tags (list_of_tags d)
value_of kind.TagKeys d = option_map given.Texts (list_of_texts d)
value_of (kind.Whole least most) d = option_map (λ z. given.Whole (natural z)) (whole_of d)
value_of kind.Flag d = option_map given.Flag (as_bool d)
value_of kind.Object d = option_map (λ ms. given.Something) (as_object d)

-- null counts as absent
abbrev pub value_given : Kind → Option Data → Option Given
value_given k None = Some given.Absent
value_given k (Some null) = Some given.Absent
value_given k (Some d) = value_of k d

-- the values of the fields in their order, if all have their types
abbrev pub values_of : List FieldRow → Data → Option (List Given)
values_of [] body = Some []
values_of (row ∷ rows) body = option_and_then (λ value. option_map (λ values. value ∷ values) (values_of rows body)) (value_given row.kind (get row.name body))

-- what the body gives to the field of a name, among these fields
abbrev pub given_by : List FieldRow → Data → List ℕ → Given
given_by [] body name = given.Absent
given_by (row ∷ rows) body name = if bytes_eq row.name name then unwrap_or (value_given row.kind (get row.name body)) given.Absent else given_by rows body name

-- a number from the least to the most
abbrev pub is_between : ℕ → ℕ → ℕ → Bool
is_between least most n = nat_le least n && nat_le n most

abbrev pub is_some_between : ℕ → ℕ → Option ℕ → Bool
is_some_between least most None = false
is_some_between least most (Some n) = is_between least most n

-- the one name of a key's policy
abbrev pub is_policy_name : List ℕ → Bool
is_policy_name name = bytes_eq name (codes "default")

-- the names of the specs of data keys
abbrev pub is_data_key_spec : List ℕ → Bool
is_data_key_spec name = bytes_eq name (codes "AES_256") || bytes_eq name (codes "AES_128")

-- a letter, a digit or one of : / _ -
abbrev pub is_grant_name_character : ℕ → Bool
is_grant_name_character c = is_ascii_alphanumeric c || list_any (λ d. d == c) (codes ":/_-")

-- 1 to 256 of them
abbrev pub is_grant_name : List ℕ → Bool
is_grant_name name = nat_le 1 (length name) && (nat_le (length name) 256 && list_all is_grant_name_character name)

-- the names of grant operations, one or more
abbrev pub is_operation_name : List ℕ → Bool
is_operation_name name = list_any (λ op. bytes_eq name (grant_op_name op)) all_grant_ops

abbrev pub are_operation_names : List (List ℕ) → Bool
are_operation_names names = nat_le 1 (length names) && list_all is_operation_name names

-- the key of a tag has 1 to 128 characters
abbrev pub is_tag_key : List ℕ → Bool
is_tag_key key = is_between 1 128 (length (chars key))

-- the value of a tag has at most 256 characters
abbrev pub is_tag : Tag → Bool
is_tag tag = is_tag_key tag.key && nat_le (length (chars tag.value)) 256

-- at most 50 tags, each with its key and its value
abbrev pub are_tags : Option (List Tag) → Bool
are_tags None = false
are_tags (Some tags) = nat_le (length tags) 50 && list_all is_tag tags

-- 1 to 50 keys of tags
abbrev pub are_tag_keys : List (List ℕ) → Bool
are_tag_keys keys = is_between 1 50 (length keys) && list_all is_tag_key keys

-- a value that is given keeps to its kind's bounds
abbrev pub fits : Kind → Given → Bool
fits (kind.Text least most) value = is_between least most (length (text_in value))
fits kind.SomeText value = nat_le 1 (length (text_in value))
fits kind.AnyText value = true
fits kind.AliasName value = is_alias_text (text_in value)
fits kind.PolicyName value = is_policy_name (text_in value)
fits kind.DataKeySpec value = is_data_key_spec (text_in value)
fits kind.GrantName value = is_grant_name (text_in value)
fits (kind.Texts most) value = nat_le (length (texts_in value)) most
fits kind.GrantOperations value = are_operation_names (texts_in value)
fits (kind.Bytes least most) value = is_between least most (length (bytes_in value))
fits kind.Context value = is_some (context_in value)
fits kind.GrantConstraint value = is_some (constraint_if value)
fits kind.Tags value = are_tags (tags_if value)
fits kind.TagKeys value = are_tag_keys (texts_in value)
fits (kind.Whole least most) value = is_some_between least most (whole_in value)
fits kind.Flag value = true
fits kind.Object value = true

-- a field that isn't given may be absent
abbrev pub may_be_absent : Wanted → Data → Bool
may_be_absent always body = false
may_be_absent maybe body = true
may_be_absent (instead_of other) body = is_given (get other body)
may_be_absent (instead_of_both one two) body = is_given (get one body) && is_given (get two body)

-- a field that is given may be given
abbrev pub may_be_given : Wanted → Data → Bool
may_be_given always body = true
may_be_given maybe body = true
may_be_given (instead_of other) body = not (is_given (get other body))
may_be_given (instead_of_both one two) body = not (is_given (get one body)) && not (is_given (get two body))

-- the value of a field is valid
abbrev pub is_valid : FieldRow → Data → Given → Bool
is_valid row body value = if is_absent value then may_be_absent row.wanted body else (may_be_given row.wanted body && fits row.kind value)

-- what the code's fault is refused by
abbrev pub refused_by : FieldFault → Refusal
refused_by (fault.Field name) = refusal.Validation name.now
refused_by fault.AliasName = refusal.InvalidAliasName

-- what a field whose value doesn't fit is refused by: that of an alias name has an exception of its own
abbrev pub misfit : Kind → List ℕ → Refusal
misfit kind.AliasName name = refusal.InvalidAliasName
misfit _ name = refusal.Validation name

-- what a field whose value isn't valid is refused by
abbrev pub refusal_at : FieldRow → Given → Refusal
refusal_at row value = if is_absent value then refusal.Validation row.name else misfit row.kind row.name

-- what the first field whose value isn't valid is refused by
abbrev pub first_invalid : List FieldRow → Data → List Given → Option Refusal
first_invalid [] body values = None
first_invalid (row ∷ rows) body [] = None
first_invalid (row ∷ rows) body (value ∷ values) = if is_valid row body value then first_invalid rows body values else Some (refusal_at row value)
