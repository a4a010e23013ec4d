-- Which entries fit a history, whoever made them: with these an account is made again from what was written down of another.
use Rattle.std.specs.Prelude.{◌≡◌, ◌==◌, ◌<◌, ◌≤◌, ◌&&◌, ℕ, List, [], ◌∷◌, ◌++◌, length, nat_le, Bool, true, false, Option, Some, None, is_some, is_none}
use Rattle.kms_names.specs.Moment.{year_10000}
use Rattle.kms_names.specs.GrantOps.{members}
use Rattle.kms_names.specs.declared.operations.GrantOp.{GrantOp}
use Rattle.kms_names.specs.Principal.{principal_text}
use Rattle.kms_names.specs.declared.principals.Principal.{Principal}
use Rattle.kms_names.specs.declared.principals.Principal.TheVariants.{Root}
use Rattle.kms_json.specs.Fields.{is_between, is_grant_name, are_tags, are_tag_keys}
use Rattle.key_policies.specs.KeyPolicy.{fault_in}
use Rattle.resource_tags.specs.Proper.{are_proper}
use Rattle.resource_tags.specs.declared.tags.Tag.{Tag as TagValue}
use Rattle.tag_order.specs.Order.{are_in_order}
use Rattle.account_rows.specs.declared.entries.Entry.{Entry}
use Rattle.account_rows.specs.declared.entries.What.{What}
use Rattle.account_rows.specs.declared.entries.What.TheVariants as what
use Rattle.account_rows.specs.Changes.{days_after, wants_house}
use Rattle.account_rows.specs.History.{replay, latest_of, is_made_here, tags_fit}
use Rattle.account_rows.specs.Sizes.{bytes_in, constraint_size}
use Rattle.account_steps.specs.declared.facts.RealmFacts.{RealmFacts}
use Rattle.account_steps.specs.Parts.{overfull}
use Rattle.account_steps.specs.Places.{no_places}
use Rattle.account_steps.specs.View.{View, key_held, aliased, grant_held}
use Rattle.account_core.specs.Decide.{IsNext}

-- ---- what an entry names is there

-- each key that it names, but for one that it makes; the alias or the grant that it drops, with its key; and what housekeeping finds to do
abbrev pub is_there : View → What → Bool
is_there view (what.CreateKey key kind description policy tags) = true
is_there view (what.Enable key) = is_some (key_held view key)
is_there view (what.Disable key) = is_some (key_held view key)
is_there view (what.Schedule key date days) = is_some (key_held view key)
is_there view (what.Cancel key) = is_some (key_held view key)
is_there view (what.RotationOn key period) = is_some (key_held view key)
is_there view (what.RotationOff key) = is_some (key_held view key)
is_there view (what.RotateNow key) = is_some (key_held view key)
is_there view (what.Policy key text) = is_some (key_held view key)
is_there view (what.Description key text) = is_some (key_held view key)
is_there view (what.Tag key tags) = is_some (key_held view key)
is_there view (what.Untag key keys) = is_some (key_held view key)
is_there view (what.AliasPut name key) = is_some (key_held view key)
is_there view (what.GrantAdd grant key grantee retiring operations constraint name) = is_some (key_held view key)
is_there view (what.AliasDrop name) = is_some (aliased view name)
is_there view (what.GrantDrop grant) = is_some (grant_held view grant)
is_there view what.House = wants_house view.moment view.keys

-- ---- its texts and numbers have their forms

abbrev pub are_formed : List TagValue → Bool
are_formed tags = are_tags (Some tags) && (are_proper tags && are_in_order tags)

abbrev pub is_name : Option (List ℕ) → Bool
is_name None = true
is_name (Some name) = is_grant_name name

-- the ARN of a principal has at most 256 bytes, as a request's has
abbrev pub is_short : Principal → Bool
is_short principal = nat_le (length (principal_text principal)) 256

abbrev pub is_short_if_given : Option Principal → Bool
is_short_if_given None = true
is_short_if_given (Some principal) = is_short principal

abbrev pub is_some_op : List GrantOp → Bool
is_some_op [] = false
is_some_op (op ∷ ops) = true

-- a description has at most 8,192 bytes, a policy no fault, a waiting period 7 to 30 days and a period of rotation 90 to 2,560; tags, the keys of tags, and the
-- names of grants are ones that requests may give, tags in the order of their keys; a grant has some operation, a constraint of at most 4,096 encoded bytes, and principals whose ARNs are short
abbrev pub is_formed : What → Bool
is_formed (what.CreateKey key kind description policy tags) = nat_le (length description) 8192 && (are_formed tags && is_none (fault_in policy))
is_formed (what.Schedule key date days) = is_between 7 30 days
is_formed (what.RotationOn key period) = is_between 90 2560 period
is_formed (what.Policy key text) = is_none (fault_in text)
is_formed (what.Description key text) = nat_le (length text) 8192
is_formed (what.Tag key tags) = are_formed tags
is_formed (what.Untag key keys) = are_tag_keys keys
is_formed (what.GrantAdd grant key grantee retiring operations constraint name) =
    is_some_op (members operations) && (nat_le (constraint_size constraint) 4096 && (is_name name && (is_short grantee && is_short_if_given retiring)))
is_formed _ = true

-- a deletion is scheduled for the date that its waiting period comes to
abbrev pub is_dated : ℕ → What → Bool
is_dated time (what.Schedule key date days) = date == days_after time days
is_dated time _ = true

-- ---- an entry fits

-- what the limits go by: the rows of this history at a time, as the account's root sees them
abbrev pub view_at : RealmFacts → List Entry → ℕ → View
view_at facts history time = record {
  facts = facts;
  keys = (replay history).keys;
  aliases = (replay history).aliases;
  grants = (replay history).grants;
  place = length history;
  bytes = bytes_in history;
  moment = time;
  caller = Root facts.account;
  places = no_places;
}

-- what an entry names is there at its time, and the limits leave room for it
pub record HasPlace (facts : RealmFacts) (history : List Entry) (entry : Entry) : Type 0 where
  pub there : is_there (view_at facts history entry.time) entry.what ≡ true
  pub left : overfull (view_at facts history entry.time) entry.what ≡ None

-- its time isn't before the last entry's, and before the year 10000; the id of a key or grant that it makes ends with its place; what it names is there; it has
-- its form; and the limits that requests are held to leave room for it
pub record Fits (facts : RealmFacts) (history : List Entry) (entry : Entry) : Type 0 where
  pub later : latest_of history ≤ entry.time
  pub bound : entry.time < year_10000
  pub made : is_made_here (length history) entry.what ≡ true
  pub placed : HasPlace facts history entry
  pub formed : is_formed entry.what ≡ true
  pub dated : is_dated entry.time entry.what ≡ true
  pub tagged : tags_fit (replay history).keys entry.what ≡ true

-- each entry of a history fits those before it
pub data IsSound (facts : RealmFacts) : List Entry → Type 0 where
  nothing : IsSound facts []
  one_more : {history : List Entry} (entry : Entry) → IsSound facts history → Fits facts history entry → IsSound facts (history ++ entry ∷ [])

-- each entry is one that a proper request, or housekeeping, appends to those before it, or one that fits them
pub data IsHeld (facts : RealmFacts) : List Entry → Type 0 where
  no_entry : IsHeld facts []
  appended_to : {history : List Entry} (entry : Entry) → IsHeld facts history → IsNext facts history entry → IsHeld facts (history ++ entry ∷ [])
  fitted_to : {history : List Entry} (entry : Entry) → IsHeld facts history → Fits facts history entry → IsHeld facts (history ++ entry ∷ [])
