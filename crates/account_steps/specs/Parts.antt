-- The steps of a decision in their order. Each operation says its own parts of them; the order is written here alone.
use Rattle.std.specs.Prelude.{ℕ, ◌+◌, ◌^◌, List, [], ◌∷◌, length, filter, map, ◌&&◌, nat_le, nat_lt, Bool, if◌then◌else◌, Option, Some, None, is_some, is_none, option_and_then, Result, Ok, Err}
use Rattle.std.specs.List.{list_any}
use Rattle.std.specs.Result.{result_ok}
use Rattle.std.specs.Str.{bytes_eq}
use Rattle.hex.specs.Hex.{encode_lower, decode_sized}
use Rattle.alias_map.specs.Aliases.{row_named}
use Rattle.grant_table.specs.declared.rows.GrantRow.{GrantRow}
use Rattle.grant_table.specs.Grants.{is_of_key}
use Rattle.kms_names.specs.declared.actions.Action.{Action}
use Rattle.kms_json.specs.declared.replies.Reply.{Reply}
use Rattle.kms_json.specs.declared.replies.Reply.TheVariants.{Refused}
use Rattle.kms_json.specs.declared.refusals.Refusal.{Refusal}
use Rattle.kms_json.specs.declared.refusals.Refusal.TheVariants as refusal
use Rattle.kms_json.specs.declared.refusals.Limit.TheVariants as limit
use Rattle.kms_json.specs.declared.states.KeyState.{KeyState}
use Rattle.kms_json.specs.declared.states.KeyState.TheVariants as told
use Rattle.key_states.specs.declared.permissions.StateFault.{StateFault}
use Rattle.key_states.specs.declared.permissions.StateFault.TheVariants as fault
use Rattle.key_states.specs.declared.states.Stored.{Stored}
use Rattle.key_states.specs.declared.states.Stored.TheVariants as stored
use Rattle.key_states.specs.Permissions.{refusal_of, need_of}
use Rattle.key_states.specs.States.{state_of}
use Rattle.account_rows.specs.Sizes.{size_of}
use Rattle.account_rows.specs.History.{key_with, most_entries, most_bytes}
use Rattle.account_rows.specs.declared.entries.Entry.{Entry}
use Rattle.account_rows.specs.declared.entries.What.{What}
use Rattle.account_rows.specs.declared.entries.What.TheVariants as what
use Rattle.key_states.specs.declared.rows.KeyRow.{KeyRow}
use Rattle.account_steps.specs.declared.places.Uses.{Uses}
use Rattle.account_steps.specs.Places.{Places}
use Rattle.account_steps.specs.Steps.{unless, and_then, or_else, arn_of}
use Rattle.account_steps.specs.declared.questions.Question.{Question as Posed}
use Rattle.account_steps.specs.Authority.{Question, denied, posed}
use Rattle.account_steps.specs.View.{View, grant_held}

-- a key whose state counts, for this action
pub record Use : Type 0 where
  pub action : Action
  pub key : KeyRow

-- What an operation says of the steps: what its references name (F), and what comes of its own refusals (R).
pub record Parts (F R : Type 0) : Type 0 where
  pub found : Result F Refusal
  pub questions : F → List Question
  pub tokens : List (List ℕ)
  pub uses : F → List Use
  pub own : F → Result R Refusal
  pub dry_run : Bool
  pub reply : F → R → Reply

-- One that doesn't change the account: where it is served, it takes these words and initialization vectors of the pass.
pub record ReadParts (F R : Type 0) : Type 0 where
  pub parts : Parts F R
  pub takes : Uses

-- One that changes the account: where it is served, it does this, or there is nothing to do.
pub record ChangeParts (F R : Type 0) : Type 0 where
  pub parts : Parts F R
  pub does : F → R → Option What

-- ---- questions

-- what was asked of the caller, as policies and grants are asked it, where all that is named is there
abbrev pub questions_of : {F R : Type 0} → View → Parts F R → Result (List Posed) Refusal
questions_of view parts = and_then parts.found (λ found. Ok (map (posed view) (parts.questions found)))

-- ---- grant tokens

-- the id that a text of 64 lower-case hexadecimal digits writes
abbrev pub if_written : List ℕ → Option (List ℕ) → Option (List ℕ)
if_written text None = None
if_written text (Some id) = if bytes_eq (encode_lower id) text then Some id else None

unfoldable pub grant_id_of : List ℕ → Option (List ℕ)
grant_id_of text = if_written text (result_ok (decode_sized text 32))

-- the live grant whose token a text is: the text of the grant's id
abbrev pub grant_of_token : View → List ℕ → Option GrantRow
grant_of_token view token = option_and_then (grant_held view) (grant_id_of token)

unfoldable pub is_dead : View → List ℕ → Bool
is_dead view token = is_none (grant_of_token view token)

-- the refusal of tokens where one is that of no live grant
abbrev pub dead_token : View → List (List ℕ) → Option Refusal
dead_token view tokens = if list_any (is_dead view) tokens then Some refusal.InvalidGrantToken else None

-- ---- key states

-- the state that a refusal tells
abbrev pub told_state : Stored → KeyState
told_state stored.Enabled = told.Enabled
told_state stored.Disabled = told.Disabled
told_state (stored.Pending date days) = told.PendingDeletion date

-- the refusal of a key's state
abbrev pub refused_state : View → KeyRow → Option StateFault → Option Refusal
refused_state view row None = None
refused_state view row (Some fault.Disabled) = Some (refusal.Disabled (arn_of view.facts row.key))
refused_state view row (Some fault.InvalidState) = Some (refusal.InvalidState (arn_of view.facts row.key) (told_state row.stored))

unfoldable pub unfit_one : View → Use → Option Refusal
unfit_one view used = refused_state view used.key (refusal_of (need_of used.action) (state_of used.key.stored view.moment))

-- the first refusal of the keys' states
abbrev pub unfit_state : View → List Use → Option Refusal
unfit_state view [] = None
unfit_state view (used ∷ uses) = or_else (unfit_one view used) (unfit_state view uses)

-- ---- limits

-- 2^48 words are drawn by a pass; a request that draws none isn't asked
abbrev pub no_more_draws : Places → ℕ → Option Refusal
no_more_draws places words = if nat_lt 0 words && nat_lt (2 ^ 48) (places.words + words) then Some (refusal.LimitExceeded limit.Draws) else None

-- a pass gives 2^48 initialization vectors
abbrev pub no_more_ivs : Places → ℕ → Option Refusal
no_more_ivs places ivs = if nat_lt 0 ivs && nat_lt (2 ^ 48) (places.ivs + ivs) then Some (refusal.LimitExceeded limit.Ivs) else None

abbrev pub spent : Places → Uses → Option Refusal
spent places uses = or_else (no_more_draws places uses.words) (no_more_ivs places uses.ivs)

-- there are 10,000 keys
abbrev pub keys_full : ℕ → Option Refusal
keys_full keys = if nat_le 10000 keys then Some (refusal.LimitExceeded limit.Keys) else None

-- a key has 10 rotations on demand at most
abbrev pub rotations_full : Option KeyRow → Option Refusal
rotations_full None = None
rotations_full (Some row) = if nat_le 10 row.on_demand then Some (refusal.LimitExceeded limit.Rotations) else None

-- an alias that is there is put in its place; there are 10,000 aliases
abbrev pub aliases_full : View → List ℕ → Option Refusal
aliases_full view name = if is_some (row_named view.aliases name) then None else (if nat_le 10000 (length view.aliases) then Some (refusal.LimitExceeded limit.Aliases) else None)

-- a key has 5,000 grants at most, and all keys together 50,000
abbrev pub grants_full : View → List ℕ → Option Refusal
grants_full view key =
    if nat_le 5000 (length (filter (is_of_key key) view.grants)) then Some (refusal.LimitExceeded limit.KeyGrants)
    else if nat_le 50000 (length view.grants) then Some (refusal.LimitExceeded limit.Grants)
    else None

-- what an entry would add to
abbrev pub full : View → What → Option Refusal
full view (what.CreateKey key kind description policy tags) = keys_full (length view.keys)
full view (what.RotateNow key) = rotations_full (key_with view.keys key)
full view (what.AliasPut name key) = aliases_full view name
full view (what.GrantAdd grant key grantee retiring operations constraint name) = grants_full view key
full view _ = None

-- there are 1,000,000 entries
abbrev pub entries_full : ℕ → Option Refusal
entries_full entries = if nat_le most_entries entries then Some (refusal.LimitExceeded limit.Entries) else None

-- the entry would pass 268,435,456 bytes
abbrev pub bytes_full : ℕ → ℕ → Option Refusal
bytes_full bytes size = if nat_lt most_bytes (bytes + size) then Some (refusal.LimitExceeded limit.Bytes) else None

-- what the entry would add to, then the number of entries, then their bytes
abbrev pub overfull : View → What → Option Refusal
overfull view did = or_else (full view did) (or_else (entries_full view.place) (bytes_full view.bytes (size_of did)))

abbrev pub limited : View → Option What → Option Refusal
limited view None = None
limited view (Some did) = overfull view did

-- ---- the order

-- a request that is only to say what it would answer
abbrev pub only_asked : Bool → Option Refusal
only_asked dry_run = if dry_run then Some refusal.DryRun else None

-- what a request that is served answers, and what it takes, or does
pub record Outcome (E : Type 0) : Type 0 where
  pub reply : Reply
  pub effect : E

-- references, authority, grant tokens, key states, the operation's own refusals
abbrev pub cleared : {F R : Type 0} → View → Parts F R → Result (F × R) Refusal
cleared view parts =
    and_then parts.found
    (λ found. unless (denied view (parts.questions found))
    (unless (dead_token view parts.tokens)
    (unless (unfit_state view (parts.uses found))
    (and_then (parts.own found) (λ ready. Ok (found, ready))))))

-- and then limits, DryRun and the reply
abbrev pub outcome : {F R E : Type 0} → View → Parts F R → (E → Option Refusal) → (F → R → E) → Result (Outcome E) Refusal
outcome view parts limit effect =
    and_then (cleared view parts)
    (λ passed. unless (limit (effect passed.0 passed.1))
    (unless (only_asked parts.dry_run) (Ok (record { reply = parts.reply passed.0 passed.1; effect = effect passed.0 passed.1 }))))

-- what is taken is limited by what the pass has left, and what is done by what the account has room for
abbrev pub reads : {F R : Type 0} → View → ReadParts F R → Result (Outcome Uses) Refusal
reads view op = outcome view op.parts (spent view.places) (λ found ready. op.takes)

abbrev pub changes : {F R : Type 0} → View → ChangeParts F R → Result (Outcome (Option What)) Refusal
changes view op = outcome view op.parts (limited view) op.does

-- ---- what is decided

-- the reply, the entry that the request appends, if any, and the places after it
pub record Decided : Type 0 where
  pub reply : Reply
  pub entry : Option Entry
  pub places : Places

-- a refusal appends nothing and takes nothing
abbrev pub refuses : Refusal → Places → Decided
refuses why places = record { reply = Refused why; entry = None; places = places }

-- a request that doesn't change the account appends nothing, and leaves the places behind what it takes
abbrev pub after : Places → Uses → Places
after places uses = record { number = places.number; words = places.words + uses.words; ivs = places.ivs + uses.ivs }

abbrev pub decided_read : Result (Outcome Uses) Refusal → Places → Decided
decided_read (Err why) places = refuses why places
decided_read (Ok outcome) places = record { reply = outcome.reply; entry = None; places = after places outcome.effect }

-- one that does appends what it does, at the moment, and takes nothing
abbrev pub entry_of : ℕ → Option What → Option Entry
entry_of moment None = None
entry_of moment (Some did) = Some (record { time = moment; what = did })

abbrev pub decided_change : ℕ → Result (Outcome (Option What)) Refusal → Places → Decided
decided_change moment (Err why) places = refuses why places
decided_change moment (Ok outcome) places = record { reply = outcome.reply; entry = entry_of moment outcome.effect; places = places }
