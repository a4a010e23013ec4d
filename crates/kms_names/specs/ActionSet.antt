-- Sets of actions, and the globs of actions.
use Rattle.std.specs.Prelude.{ℕ, ◌^◌, ◌==◌, Bool, List, bit_or}
use Rattle.std.specs.Int.{bit_at}
use Rattle.kms_names.specs.declared.actions.Action.{Action}
use Rattle.kms_names.specs.Action.{action_number, action_text}
use Rattle.kms_names.specs.Glob.{Globs, lowercase_chars}

-- a glob matches an action, as `kms:` and its name and without ASCII case
abbrev pub IsActionLike : List ℕ → Action → Type 0
IsActionLike pattern action = Globs (lowercase_chars pattern) (lowercase_chars (action_text action))

-- an action is in the set whose bits these are: the bit of its number is set
abbrev pub has_action : ℕ → Action → Bool
has_action bits action = bit_at bits (action_number action) == 1

-- a set with one more action
abbrev pub with_action : Action → ℕ → ℕ
with_action action bits = bit_or bits (2 ^ action_number action)
