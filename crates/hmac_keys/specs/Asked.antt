-- Which kind of key a CreateKey asks for, and the order of its refusals (AWS KMS API Reference,
-- CreateKey, "KeyUsage", "CustomerMasterKeySpec" and "KeySpec"). Each is absent or a text.
use Rattle.std.specs.Prelude.{ℕ, List, [], ◌∷◌, Bool, false, not, find, Option, Some, unwrap_or, is_none, option_map, Result, Ok, Err}
use Rattle.std.specs.Option.{option_map_or}
use Rattle.std.specs.Str.{bytes_eq}
use Rattle.hmac_keys.specs.declared.kinds.KeyKind.{KeyKind}
use Rattle.hmac_keys.specs.declared.kinds.KeyKind.TheVariants.{Symmetric}
use Rattle.hmac_keys.specs.declared.kinds.KindField.{KindField}
use Rattle.hmac_keys.specs.declared.kinds.KindField.TheVariants.{KeyUsage, CustomerMasterKeySpec, KeySpec}
use Rattle.hmac_keys.specs.declared.kinds.KindRead.{KindRead}
use Rattle.hmac_keys.specs.declared.kinds.KindRead.TheVariants.{Kind, Unsupported}
use Rattle.hmac_keys.specs.Kind.{all_kinds, usage_text, spec_text, text_in}

-- the kind whose text in a field this is
abbrev pub kind_named : KindField → List ℕ → Option KeyKind
kind_named field text = find (λ kind. bytes_eq text (text_in field kind)) all_kinds

-- a field is given, and is no kind's text
abbrev pub names_none : KindField → Option (List ℕ) → Bool
names_none field given = option_map_or (λ text. is_none (kind_named field text)) given false

-- two specs are given, and differ
abbrev pub differ : Option (List ℕ) → Option (List ℕ) → Bool
differ (Some master) (Some spec) = not (bytes_eq master spec)
differ master spec = false

-- the usage, which is that of symmetric keys where it is absent
abbrev pub usage_meant : Option (List ℕ) → List ℕ
usage_meant usage = unwrap_or usage (usage_text Symmetric)

-- the spec: an absent one is the other, and that of symmetric keys where both are absent
abbrev pub spec_meant : Option (List ℕ) → Option (List ℕ) → List ℕ
spec_meant master spec = unwrap_or spec (unwrap_or master (spec_text Symmetric))

-- the kind of the spec
abbrev pub kind_meant : Option (List ℕ) → Option (List ℕ) → KeyKind
kind_meant master spec = unwrap_or (kind_named KeySpec (spec_meant master spec)) Symmetric

-- the refusals in their order: each with what calls for it, and the field that it names
abbrev pub refusals : Option (List ℕ) → Option (List ℕ) → Option (List ℕ) → List (Bool × KindField)
refusals usage master spec =
    (names_none KeyUsage usage, KeyUsage)
    ∷ (names_none CustomerMasterKeySpec master, CustomerMasterKeySpec)
    ∷ (names_none KeySpec spec, KeySpec)
    ∷ (differ master spec, KeySpec)
    ∷ (not (bytes_eq (usage_meant usage) (usage_text (kind_meant master spec))), KeyUsage)
    ∷ []

-- the field that the first refusal names, of those that are called for
abbrev pub refused_field : Option (List ℕ) → Option (List ℕ) → Option (List ℕ) → Option KindField
refused_field usage master spec = option_map (λ refusal. refusal.1) (find (λ refusal. refusal.0) (refusals usage master spec))

-- the first refusal, or else the kind of the spec
unfoldable pub kind_of : Option (List ℕ) → Option (List ℕ) → Option (List ℕ) → KindRead
kind_of usage master spec = option_map_or Unsupported (refused_field usage master spec) (Kind (kind_meant master spec))

-- a kind or a refused field, as the answer
abbrev pub answer_of : Result KeyKind KindField → KindRead
answer_of (Ok kind) = Kind kind
answer_of (Err field) = Unsupported field
