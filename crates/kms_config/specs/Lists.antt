-- Lists in a configuration.
use Rattle.std.specs.Prelude.{ℕ, ◌+◌, List, nat_le, Option, option_and_then, Result, Ok}
use Rattle.serde_json.specs.Data.{Data, Items, no_items, item}
use Rattle.serde_json.specs.Find.{as_array}
use Rattle.kms_names.specs.Reading.{some_if}
use Rattle.policy_doc.specs.Texts.{items_len}
use Rattle.kms_config.specs.Answers.{◌>>=◌}

-- the items of a list of at most so many
abbrev pub if_few : ℕ → Items → Option Items
if_few most values = some_if (nat_le (items_len values) most) values

-- of which there is one at least
abbrev pub if_any : Items → Option Items
if_any values = some_if (nat_le 1 (items_len values)) values

abbrev pub items_within : ℕ → Option Data → Option Items
items_within most value = option_and_then (if_few most) (option_and_then as_array value)

-- what comes of the items one after another, each with its place in the list, up to the first fault
abbrev pub items_from : {A : Type 0} → (A → ℕ → Data → Result A (List ℕ)) → A → ℕ → Items → Result A (List ℕ)
items_from next had index no_items = Ok had
items_from next had index (item value values) = next had index value >>= (λ new. items_from next new (index + 1) values)
