-- The entry that a request appends, and when.
use Rattle.std.proofs.Common.{◌≡◌, ℕ, List, length, Option, Some, None, Result, Ok, Err, refl, sym, ap, ◌∙◌}
use Rattle.kms_json.specs.declared.asks.Ask.{Ask}
use Rattle.kms_json.specs.declared.asks.AskBody.{AskBody}
use Rattle.kms_json.specs.declared.asks.AskBody.TheVariants as ask
use Rattle.kms_json.specs.declared.asks.Changing.{Changing}
use Rattle.kms_json.specs.declared.asks.Changing.TheVariants as changing
use Rattle.kms_json.specs.declared.refusals.Refusal.{Refusal}
use Rattle.kms_json.specs.Asks.{IsSized, IsSizedChanging}
use Rattle.kms_json.proofs.Sizes.{asked_sized}
use Rattle.account_rows.specs.declared.entries.Entry.{Entry}
use Rattle.account_rows.specs.declared.entries.What.{What}
use Rattle.account_steps.specs.declared.facts.RealmFacts.{RealmFacts}
use Rattle.account_steps.specs.declared.places.Uses.{Uses}
use Rattle.account_steps.specs.Places.{no_places}
use Rattle.account_steps.specs.declared.places.Places.{Places}
use Rattle.account_steps.specs.Parts.{Outcome, overfull, decided_read, decided_change, entry_of}
use Rattle.account_steps.specs.Steps.{unless}
use Rattle.account_steps.specs.View.{View, view_of}
use Rattle.account_steps.proofs.Done.{IsDone, HasRoom, done_by}
use Rattle.account_steps.proofs.Passing.{next_of}
use Rattle.account_keys.specs.declared.alias_changes.AliasChange.TheVariants as alias
use Rattle.account_keys.specs.declared.key_changes.KeyChange.TheVariants as change
use Rattle.account_keys.specs.Aliases.{changes_alias}
use Rattle.account_keys.specs.Grants.{creates_grant, retires_grant, revokes_grant}
use Rattle.account_keys.specs.KeyChanges.{changes_key}
use Rattle.account_keys.specs.Keys.{creates_key}
use Rattle.account_keys.specs.Policies.{puts_policy}
use Rattle.account_keys.proofs.Doing as does
use Rattle.account_tags.specs.Tagging.{tags_key, untags_key}
use Rattle.account_tags.proofs.Doing as tagging
use Rattle.account_core.specs.Operations.{change_outcome, read_outcome}
use Rattle.account_core.specs.Decide.{lacking, decide_body, decide, IsProper}

-- ---- what each operation that changes the account does

room_of : (view : View) (body : Changing) (o : Outcome (Option What)) (did : What) → IsSizedChanging body → change_outcome view body ≡ Ok o → o.effect ≡ Some did → HasRoom view did
room_of view (changing.CreateKey x) o did sized = done_by view (creates_key view x) (does.creates view x sized.1) o did
room_of view (changing.PutKeyPolicy key_id text bypass) o did sized = done_by view (puts_policy view key_id text bypass) (does.puts view key_id text bypass) o did
room_of view (changing.UpdateKeyDescription key_id text) o did sized = done_by view (changes_key view key_id (change.Describe text)) (does.changes view key_id (change.Describe text) tt) o did
room_of view (changing.EnableKey key_id) o did sized = done_by view (changes_key view key_id change.Enable) (does.changes view key_id change.Enable tt) o did
room_of view (changing.DisableKey key_id) o did sized = done_by view (changes_key view key_id change.Disable) (does.changes view key_id change.Disable tt) o did
room_of view (changing.ScheduleKeyDeletion key_id days) o did sized = done_by view (changes_key view key_id (change.ScheduleDeletion days)) (does.changes view key_id (change.ScheduleDeletion days) tt) o did
room_of view (changing.CancelKeyDeletion key_id) o did sized = done_by view (changes_key view key_id change.CancelDeletion) (does.changes view key_id change.CancelDeletion tt) o did
room_of view (changing.EnableKeyRotation key_id period) o did sized = done_by view (changes_key view key_id (change.RotateEvery period)) (does.changes view key_id (change.RotateEvery period) sized.0) o did
room_of view (changing.DisableKeyRotation key_id) o did sized = done_by view (changes_key view key_id change.RotateNoMore) (does.changes view key_id change.RotateNoMore tt) o did
room_of view (changing.RotateKeyOnDemand key_id) o did sized = done_by view (changes_key view key_id change.RotateNow) (does.changes view key_id change.RotateNow tt) o did
room_of view (changing.CreateAlias name key_id) o did sized = done_by view (changes_alias view name (alias.Create key_id)) (does.moves view name (alias.Create key_id)) o did
room_of view (changing.UpdateAlias name key_id) o did sized = done_by view (changes_alias view name (alias.Update key_id)) (does.moves view name (alias.Update key_id)) o did
room_of view (changing.DeleteAlias name) o did sized = done_by view (changes_alias view name alias.Delete) (does.moves view name alias.Delete) o did
room_of view (changing.CreateGrant x) o did sized = done_by view (creates_grant view x) (does.grants view x) o did
room_of view (changing.RetireGrant grant dry_run) o did sized = done_by view (retires_grant view grant dry_run) (does.retires view grant dry_run) o did
room_of view (changing.RevokeGrant key_id grant_id dry_run) o did sized = done_by view (revokes_grant view key_id grant_id dry_run) (does.revokes view key_id grant_id dry_run) o did
room_of view (changing.TagResource key_id tags) o did sized = done_by view (tags_key view key_id tags) (tagging.tags view key_id tags) o did
room_of view (changing.UntagResource key_id keys) o did sized = done_by view (untags_key view key_id keys) (tagging.untags view key_id keys) o did

-- ---- the entry

-- a request that doesn't change the account appends nothing, whatever it comes to
appends_nothing : (wanted : Result (Outcome Uses) Refusal) (places : Places) → (decided_read wanted places).entry ≡ None
appends_nothing (Ok outcome) places = refl
appends_nothing (Err why) places = refl

-- one that does appends what its outcome does, at the moment
record Appends (wanted : Result (Outcome (Option What)) Refusal) (moment : ℕ) (entry : Entry) : Type 0 where
  out : Outcome (Option What)
  is : wanted ≡ Ok out
  does_it : out.effect ≡ Some entry.what
  time : entry.time ≡ moment

appended_by : (wanted : Result (Outcome (Option What)) Refusal) (moment : ℕ) (places : Places) (entry : Entry) → (decided_change moment wanted places).entry ≡ Some entry → Appends wanted moment entry
appended_by (Err why) moment places entry e = cc
appended_by (Ok out) moment places entry e = of_what out.effect refl e
  where
    of_what : (did : Option What) → out.effect ≡ did → entry_of moment did ≡ Some entry → Appends (Ok out) moment entry
    of_what None is e = cc
    of_what (Some did) is e =
        let same : record { time = moment; what = did } ≡ entry = cc in
        record {
          out = out;
          is = refl;
          does_it = is ∙ ap (λ (it : Entry). Some it.what) same;
          time = ap (λ (it : Entry). it.time) (sym same);
        }

-- its time is the moment, it is done well, and the limits leave room for it
pub record IsEntryAt (view : View) (entry : Entry) : Type 0 where
  pub time : entry.time ≡ view.moment
  pub done : IsDone view entry.what
  pub left : overfull view entry.what ≡ None

module _ (facts : RealmFacts) (history : List Entry) (x : Ask) (entry : Entry) where
  of_body : (body : AskBody) → IsSized body → (decide_body facts history x body no_places).entry ≡ Some entry → IsEntryAt (view_of facts history x no_places) entry
  of_body (ask.Read body) sized e =
      let none = appends_nothing (unless (lacking (length history) x.after) (read_outcome (view_of facts history x no_places) body)) no_places in
      let nothing : ◌≡◌ {A = Option Entry} None (Some entry) = sym none ∙ e in
      cc
  of_body (ask.Change body) sized e =
      let view : View = view_of facts history x no_places in
      let wanted : Result (Outcome (Option What)) Refusal = unless (lacking (length history) x.after) (change_outcome view body) in
      let by = appended_by wanted view.moment no_places entry e in
      let room = room_of view body by.out entry.what sized (next_of (lacking (length history) x.after) (change_outcome view body) by.out by.is) by.does_it in
      record { time = by.time; done = room.done; left = room.left }

  pub next_entry : IsProper facts x → (decide facts history x no_places).entry ≡ Some entry → IsEntryAt (view_of facts history x no_places) entry
  unfolding decide
  next_entry proper e = of_body x.body (asked_sized proper.target proper.text x.body proper.body) e
