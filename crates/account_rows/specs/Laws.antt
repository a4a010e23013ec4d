-- What follows from the definitions alone: the tags of a key are what the entries of the history last gave (AWS KMS API
-- Reference, CreateKey, TagResource and UntagResource).
use Rattle.std.specs.Prelude.{◌≡◌, ℕ, List, ◌∷◌, ◌++◌, Option, Some, None, ◌&&◌, if◌then◌else◌, All}
use Rattle.std.specs.Option.{option_map}
use Rattle.std.specs.Str.{bytes_eq}
use Rattle.persist_map.specs.Pairs.{value_at}
use Rattle.resource_tags.specs.Laws.{last_value, is_among}
use Rattle.resource_tags.specs.Tags.{by_bytes}
use Rattle.key_states.specs.declared.rows.KeyRow.{KeyRow}
use Rattle.account_rows.specs.declared.entries.Entry.{Entry}
use Rattle.account_rows.specs.declared.entries.What.{What}
use Rattle.account_rows.specs.declared.entries.What.TheVariants.{CreateKey, Tag, Untag}
use Rattle.account_rows.specs.History.{replay, key_with, AreMadeFrom}

-- what an entry gives the tag of a key, where it names that tag: a value, or none. An entry that makes a key names all of
-- its tags
abbrev pub gives : List ℕ → List ℕ → What → Option (Option (List ℕ))
gives id tag (CreateKey key kind description policy tags) = if bytes_eq id key then Some (last_value tags tag) else None
gives id tag (Tag key tags) = if bytes_eq id key then option_map Some (last_value tags tag) else None
gives id tag (Untag key keys) = if bytes_eq id key && is_among keys tag then Some None else None
gives id tag _ = None

-- the last entry of a history that names the tag of a key gives it this value, or none
pub record IsLastGiven (history : List Entry) (id tag : List ℕ) (value : Option (List ℕ)) : Type 0 where
  pub front : List Entry
  pub entry : Entry
  pub back : List Entry
  pub is : history ≡ front ++ entry ∷ back
  pub given : gives id tag entry.what ≡ Some value
  pub silent : All (λ (later : Entry). gives id tag later.what ≡ None) back

-- each tag of a key that is there has what the last entry gives it that names it, where the entries make keys whose ids
-- end with their places
abbrev pub TagsAreTheLastGiven : Type 0
TagsAreTheLastGiven =
    (history : List Entry) (id : List ℕ) (row : KeyRow) (tag : List ℕ) → AreMadeFrom 0 history → key_with (replay history).keys id ≡ Some row
    → IsLastGiven history id tag (value_at by_bytes row.tags tag)
