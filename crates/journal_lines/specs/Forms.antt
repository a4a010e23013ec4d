-- What the parts of an entry are, whatever the account's history: ids have their sizes, texts are UTF-8, names and principals
-- have their forms, numbers their ranges, and a set of operations has no other bits.
use Rattle.std.specs.Prelude.{◌≡◌, ⊤, ℕ, ◌<◌, ◌^◌, List, Option, None, Some, All}
use Rattle.std.specs.Str.{IsUtf8}
use Rattle.kms_names.specs.Alias.{IsAliasName}
use Rattle.kms_names.specs.GrantOps.{contains, those}
use Rattle.kms_names.specs.Identifier.{IsKeyId, IsGrantId}
use Rattle.kms_names.specs.Principal.{IsPrincipal}
use Rattle.enc_context.specs.Encoding.{IsContext}
use Rattle.enc_context.specs.declared.pairs.Pair.{Pair}
use Rattle.resource_tags.specs.declared.tags.Tag.{Tag}
use Rattle.grant_table.specs.declared.constraints.Constraint.{Constraint}
use Rattle.grant_table.specs.declared.constraints.Constraint.TheVariants.{Free, Equals, Subset}
use Rattle.account_rows.specs.declared.entries.Entry.{Entry}
use Rattle.account_rows.specs.declared.entries.What.{What}
use Rattle.account_rows.specs.declared.entries.What.TheVariants as what

abbrev pub IsTag : Tag → Type 0
IsTag tag = IsUtf8 tag.key × IsUtf8 tag.value

abbrev pub IsPair : Pair → Type 0
IsPair pair = IsUtf8 pair.key × IsUtf8 pair.value

abbrev pub IsContextOfTexts : List Pair → Type 0
IsContextOfTexts pairs = IsContext pairs × All IsPair pairs

abbrev pub IsConstraint : Constraint → Type 0
IsConstraint Free = ⊤
IsConstraint (Equals pairs) = IsContextOfTexts pairs
IsConstraint (Subset pairs) = IsContextOfTexts pairs

abbrev pub IsIfAny : {A : Type 0} → (A → Type 0) → Option A → Type 0
IsIfAny Is None = ⊤
IsIfAny Is (Some x) = Is x

abbrev pub IsOperations : ℕ → Type 0
IsOperations operations = operations ≡ those (contains operations)

abbrev pub IsSmall : ℕ → Type 0
IsSmall n = n < 2 ^ 32

abbrev pub IsWhat : What → Type 0
IsWhat (what.CreateKey key kind description policy tags) = IsKeyId key × IsUtf8 description × IsUtf8 policy × All IsTag tags
IsWhat (what.Enable key) = IsKeyId key
IsWhat (what.Disable key) = IsKeyId key
IsWhat (what.Schedule key date days) = IsKeyId key × (date < 2 ^ 64) × IsSmall days
IsWhat (what.Cancel key) = IsKeyId key
IsWhat (what.RotationOn key period) = IsKeyId key × IsSmall period
IsWhat (what.RotationOff key) = IsKeyId key
IsWhat (what.RotateNow key) = IsKeyId key
IsWhat (what.Policy key text) = IsKeyId key × IsUtf8 text
IsWhat (what.Description key text) = IsKeyId key × IsUtf8 text
IsWhat (what.Tag key tags) = IsKeyId key × All IsTag tags
IsWhat (what.Untag key keys) = IsKeyId key × All IsUtf8 keys
IsWhat (what.AliasPut name key) = IsAliasName name × IsKeyId key
IsWhat (what.AliasDrop name) = IsAliasName name
IsWhat (what.GrantAdd grant key grantee retiring operations constraint name) =
    IsGrantId grant × IsKeyId key × IsPrincipal grantee × IsIfAny IsPrincipal retiring × IsOperations operations × IsConstraint constraint × IsIfAny IsUtf8 name
IsWhat (what.GrantDrop grant) = IsGrantId grant
IsWhat what.House = ⊤

abbrev pub IsEntry : Entry → Type 0
IsEntry entry = (entry.time < 2 ^ 64) × IsWhat entry.what
