-- The text of a JSON value, as far as it is written: the tokens of JSON that it is made of (RFC 8259).
use Rattle.std.specs.Prelude.{◌≡◌, ℕ, List, [], ◌∷◌, ◌++◌, Option, Some, None, Result, OnOk, codes}
use Rattle.std.specs.Cmp.Lexicographic.{slice_cmp}
use Rattle.std.specs.Ordering.{nat_cmp}
use Rattle.std.specs.declared.cmp.Ordering.TheVariants.{Greater}
use Rattle.json.specs.Token.{Token, key}
use Rattle.json.specs.Tree.{json_tokens, members_tokens}
use Rattle.serde_json.specs.Data.{Data, Members}
use Rattle.serde_json.specs.Written.{outline, members_outline}
use Rattle.kms_json.specs.declared.objects.Member.{Member}
use Rattle.kms_json.specs.Objects.{with_any, item_data}

-- the tokens of a value
abbrev pub data_tokens : Data → List Token
data_tokens d = json_tokens (outline d)

-- those of a member, if it has a value
abbrev pub member_tokens : List ℕ → Option Data → List Token
member_tokens name None = []
member_tokens name (Some d) = key name ∷ data_tokens d

-- those of an object's last members, with the closing bracket
abbrev pub closing_tokens : Members → List Token
closing_tokens ms = members_tokens (members_outline ms)

-- a value is written after what was
abbrev pub Writes : {E : Type 0} → Result (Unit {0}) E → List Token → List Token → Data → Type 0
Writes r old new d = OnOk r (new ≡ old ++ data_tokens d)

-- members are written after what was: whichever members close the object, `more` has those before them
abbrev pub Adds : {E : Type 0} → Result (Unit {0}) E → List Token → List Token → (Members → Members) → Type 0
Adds r old new more = OnOk r ((rest : Members) → new ++ closing_tokens rest ≡ old ++ closing_tokens (more rest))

-- these members in their order, but for those that hold nothing, and then more
abbrev pub listed : List Member → Members → Members
listed [] more = more
listed (one ∷ others) more = with_any one.0.now (item_data one.1) (listed others more)

-- a name comes before those of the members that every part of a list has
abbrev pub ComesBeforeMarkers : List ℕ → Type 0
ComesBeforeMarkers name = (slice_cmp nat_cmp (codes "NextMarker") name ≡ Greater) × (slice_cmp nat_cmp (codes "Truncated") name ≡ Greater)
