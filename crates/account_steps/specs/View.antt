-- What every step of a decision goes by.
use Rattle.std.specs.Prelude.{ℕ, List, length, Bool, Option, Some, None, is_some, option_and_then, if◌then◌else◌}
use Rattle.kms_names.specs.declared.principals.Principal.{Principal}
use Rattle.kms_json.specs.declared.asks.Ask.{Ask}
use Rattle.account_steps.specs.declared.facts.RealmFacts.{RealmFacts}
use Rattle.account_rows.specs.declared.entries.Entry.{Entry}
use Rattle.key_states.specs.declared.rows.KeyRow.{KeyRow}
use Rattle.account_rows.specs.History.{replay, moment_of, key_with}
use Rattle.account_rows.specs.Changes.{is_gone}
use Rattle.account_rows.specs.Sizes.{bytes_in}
use Rattle.alias_map.specs.declared.rows.AliasRow.{AliasRow}
use Rattle.alias_map.specs.Aliases.{row_named}
use Rattle.grant_table.specs.declared.rows.GrantRow.{GrantRow}
use Rattle.grant_table.specs.Grants.{grant_with}
use Rattle.account_steps.specs.Places.{Places}

-- the facts, the rows of keys, aliases and grants, the place of the next entry, the bytes that entries count, the moment, who asks, and the places
-- of the pass that asks
pub record View : Type 0 where
  pub facts : RealmFacts
  pub keys : List KeyRow
  pub aliases : List AliasRow
  pub grants : List GrantRow
  pub place : ℕ
  pub bytes : ℕ
  pub moment : ℕ
  pub caller : Principal
  pub places : Places

-- the view of a request at a history
abbrev pub view_of : RealmFacts → List Entry → Ask → Places → View
view_of facts history x places = record {
  facts = facts;
  keys = (replay history).keys;
  aliases = (replay history).aliases;
  grants = (replay history).grants;
  place = length history;
  bytes = bytes_in history;
  moment = moment_of history x.moment;
  caller = x.caller;
  places = places;
}

-- a key that is gone counts as absent
abbrev pub unless_gone : ℕ → Option KeyRow → Option KeyRow
unless_gone moment None = None
unless_gone moment (Some row) = if is_gone moment row then None else Some row

-- the key of an id
abbrev pub key_held : View → List ℕ → Option KeyRow
key_held view id = unless_gone view.moment (key_with view.keys id)

-- the key that an alias names
abbrev pub aliased : View → List ℕ → Option KeyRow
aliased view name = option_and_then (λ (row : AliasRow). key_held view row.key) (row_named view.aliases name)

-- a grant is live where its key is there
abbrev pub is_live : View → GrantRow → Bool
is_live view grant = is_some (key_held view grant.key)

abbrev pub if_live : View → GrantRow → Option GrantRow
if_live view grant = if is_live view grant then Some grant else None

-- the live grant of an id
abbrev pub grant_held : View → List ℕ → Option GrantRow
grant_held view id = option_and_then (if_live view) (grant_with view.grants id)
