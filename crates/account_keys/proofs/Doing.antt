-- What each operation does: a key or grant that it makes has the id of its place, a period has days, a grant that it drops is there, and no key has too many tags.
use Rattle.std.proofs.Common.{◌≡◌, ℕ, ◌≤◌, Bool, true, false, List, length, Option, Some, None, Ok, refl, if◌then◌else◌, arith, le_trans}
use Rattle.std.specs.Prelude.{option_and_then}
use Rattle.std.specs.Str.{bytes_eq}
use Rattle.grant_table.specs.declared.rows.GrantRow.{GrantRow}
use Rattle.grant_table.specs.Grants.{grant_with}
use Rattle.key_states.specs.declared.rows.KeyRow.{KeyRow}
use Rattle.kms_json.specs.declared.asks.grants.CreateGrant.{CreateGrant}
use Rattle.kms_json.specs.declared.asks.grants.RetiredGrant.{RetiredGrant}
use Rattle.kms_json.specs.declared.asks.grants.RetiredGrant.TheVariants as retired
use Rattle.kms_json.specs.declared.asks.keys.CreateKey.{CreateKey}
use Rattle.kms_json.specs.declared.refusals.Refusal.TheVariants as refusal
use Rattle.kms_json.specs.declared.refusals.Missing.TheVariants as missing
use Rattle.key_states.specs.States.{is_enabled}
use Rattle.account_rows.specs.Changes.{days_after}
use Rattle.account_rows.specs.declared.entries.What.{What}
use Rattle.account_rows.specs.declared.entries.What.TheVariants as what
use Rattle.account_steps.specs.Given.{grant_id_in}
use Rattle.account_steps.specs.Parts.{grant_id_of, grant_of_token}
use Rattle.account_steps.specs.Steps.{and_then, only_key_of}
use Rattle.account_steps.specs.View.{View, is_live, if_live, grant_held}
use Rattle.account_steps.proofs.Done.{HoldsDropped, IsDone, DoesWell, does_this}
use Rattle.account_steps.proofs.Passing.{found_of, ok_of}
use Rattle.resource_tags.proofs.TagFacts.{few_from_none}
use Rattle.tag_order.specs.Order.{in_order}
use Rattle.tag_order.proofs.OrderFacts.{fewer_in_order}
use Rattle.account_keys.specs.declared.alias_changes.AliasChange.{AliasChange}
use Rattle.account_keys.specs.declared.grants.Granting.{Granting}
use Rattle.account_keys.specs.declared.key_changes.KeyChange.{KeyChange}
use Rattle.account_keys.specs.declared.key_changes.KeyChange.TheVariants as change
use Rattle.account_keys.specs.Aliases.{changes_alias, done_to}
use Rattle.account_keys.specs.Grants.{creates_grant, retires_grant, revokes_grant, made_unless, same_grant, if_of_key, grant_of, retired_of}
use Rattle.account_keys.specs.KeyChanges.{done_at, does_unless, is_disabled, is_period, is_off, changes_key}
use Rattle.account_keys.specs.Keys.{creates_key}
use Rattle.account_keys.specs.Policies.{puts_policy}

-- ---- keys

pub creates : (view : View) (x : CreateKey) → length x.tags ≤ 50 → DoesWell view (creates_key view x)
creates view x few found ready did found_is own_is e = does_this view _ did (record { made = refl; gives = tt; holds = tt; tagged = few_from_none (in_order x.tags) (le_trans (fewer_in_order x.tags) few) }) e

pub puts : (view : View) (key_id text : List ℕ) (bypass : Bool) → DoesWell view (puts_policy view key_id text bypass)
puts view key_id text bypass found ready did found_is own_is e = does_this view _ did (record { made = tt; gives = tt; holds = tt; tagged = tt }) e

-- a period has 90 days at least
abbrev pub HasDays : KeyChange → Type 0
HasDays (change.RotateEvery period) = 90 ≤ period
HasDays _ = Unit {0}

unless_done : (view : View) (done : Bool) (this did : What) → IsDone view this → does_unless done this ≡ Some did → IsDone view did
unless_done view true this did well e = cc
unless_done view false this did well e = does_this view this did well e

changed : (view : View) (row : KeyRow) (c : KeyChange) (did : What) → HasDays c → done_at view.moment row c ≡ Some did → IsDone view did
changed view row change.Enable did days e = unless_done view (is_enabled row.stored) (what.Enable row.key) did (record { made = tt; gives = tt; holds = tt; tagged = tt }) e
changed view row change.Disable did days e = unless_done view (is_disabled row.stored) (what.Disable row.key) did (record { made = tt; gives = tt; holds = tt; tagged = tt }) e
changed view row (change.ScheduleDeletion window) did days e = does_this view (what.Schedule row.key (days_after view.moment window) window) did (record { made = tt; gives = tt; holds = tt; tagged = tt }) e
changed view row change.CancelDeletion did days e = does_this view (what.Cancel row.key) did (record { made = tt; gives = tt; holds = tt; tagged = tt }) e
changed view row (change.RotateEvery period) did days e =
    unless_done view (is_period period row.period) (what.RotationOn row.key period) did (record { made = tt; gives = omega (arith, days); holds = tt; tagged = tt }) e
changed view row change.RotateNoMore did days e = unless_done view (is_off row.period) (what.RotationOff row.key) did (record { made = tt; gives = tt; holds = tt; tagged = tt }) e
changed view row change.RotateNow did days e = does_this view (what.RotateNow row.key) did (record { made = tt; gives = tt; holds = tt; tagged = tt }) e
changed view row (change.Describe text) did days e = does_this view (what.Description row.key text) did (record { made = tt; gives = tt; holds = tt; tagged = tt }) e

pub changes : (view : View) (key_id : List ℕ) (c : KeyChange) → HasDays c → DoesWell view (changes_key view key_id c)
changes view key_id c days found ready did found_is own_is e = changed view found c did days e

-- ---- aliases

moved : (view : View) (name : List ℕ) (new : Option KeyRow) → IsDone view (done_to name new)
moved view name None = record { made = tt; gives = tt; holds = tt; tagged = tt }
moved view name (Some row) = record { made = tt; gives = tt; holds = tt; tagged = tt }

pub moves : (view : View) (name : List ℕ) (c : AliasChange) → DoesWell view (changes_alias view name c)
moves view name c found ready did found_is own_is e = does_this view (done_to name found.new) did (moved view name found.new) e

-- ---- grants

granted : (view : View) (x : CreateGrant) (granting : Granting) (same : Option GrantRow) (did : What) → made_unless same view x granting ≡ Some did → IsDone view did
granted view x granting (Some grant) did e = cc
granted view x granting None did e = does_this view _ did (record { made = refl; gives = tt; holds = tt; tagged = tt }) e

pub grants : (view : View) (x : CreateGrant) → DoesWell view (creates_grant view x)
grants view x found ready did found_is own_is e = granted view x found (same_grant view x found) did e

-- a grant that was looked up is there
if_live_there : (view : View) (o : Option GrantRow) (row : GrantRow) → option_and_then (if_live view) o ≡ Some row → o ≡ Some row
if_live_there view None row e = cc
if_live_there view (Some grant) row e = by_test (is_live view grant) e
  where
    by_test : (b : Bool) → (if b then Some grant else None) ≡ Some row → Some grant ≡ Some row
    by_test true e = e
    by_test false e = cc

dropped_of : (view : View) (id : List ℕ) (row : GrantRow) → grant_held view id ≡ Some row → HoldsDropped view.grants (what.GrantDrop row.grant)
dropped_of view id row e = (id, row, if_live_there view (grant_with view.grants id) row e, refl)

of_token : (view : View) (o : Option (List ℕ)) (row : GrantRow) → option_and_then (grant_held view) o ≡ Some row → HoldsDropped view.grants (what.GrantDrop row.grant)
of_token view (Some id) row e = dropped_of view id row e
of_token view None row e = cc

of_its_key : (key : List ℕ) (o : Option GrantRow) (row : GrantRow) → option_and_then (if_of_key key) o ≡ Some row → o ≡ Some row
of_its_key key None row e = cc
of_its_key key (Some grant) row e = by_test (bytes_eq grant.key key) e
  where
    by_test : (b : Bool) → (if b then Some grant else None) ≡ Some row → Some grant ≡ Some row
    by_test true e = e
    by_test false e = cc

of_key_and_id : (view : View) (key : KeyRow) (id : List ℕ) (row : GrantRow) → grant_of view key id ≡ Ok row → HoldsDropped view.grants (what.GrantDrop row.grant)
of_key_and_id view key id row e =
    dropped_of view id row (of_its_key key.key (grant_held view id) row (ok_of (option_and_then (if_of_key key.key) (grant_held view id)) (refusal.NotFound missing.Grant) row e))

retired_held : (view : View) (x : RetiredGrant) (row : GrantRow) → retired_of view x ≡ Ok row → HoldsDropped view.grants (what.GrantDrop row.grant)
retired_held view (retired.OfToken token) row e = of_token view (grant_id_of token) row (ok_of (grant_of_token view token) refusal.InvalidGrantToken row e)
retired_held view (retired.OfKey key_id id) row e =
    let key = found_of (only_key_of view key_id) (λ (k : KeyRow). and_then (grant_id_in id) (λ grant. grant_of view k grant)) row e in
    let grant = found_of (grant_id_in id) (λ (g : List ℕ). grant_of view key.value g) row key.came in
    of_key_and_id view key.value grant.value row grant.came

drops : (view : View) (row : GrantRow) (did : What) → HoldsDropped view.grants (what.GrantDrop row.grant) → ◌≡◌ {A = Option What} (Some (what.GrantDrop row.grant)) (Some did) → IsDone view did
drops view row did held e = does_this view (what.GrantDrop row.grant) did (record { made = tt; gives = tt; holds = held; tagged = tt }) e

pub retires : (view : View) (x : RetiredGrant) (dry_run : Bool) → DoesWell view (retires_grant view x dry_run)
retires view x dry_run found ready did found_is own_is e = drops view found did (retired_held view x found found_is) e

pub revokes : (view : View) (key_id id : List ℕ) (dry_run : Bool) → DoesWell view (revokes_grant view key_id id dry_run)
revokes view key_id id dry_run found ready did found_is own_is e = drops view ready did (of_key_and_id view found.row found.grant ready own_is) e
