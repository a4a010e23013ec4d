-- The operations, one line each, and what is made of them.
use Rattle.std.specs.Prelude.{List, Option, Result, Ok, Err}
use Rattle.kms_json.specs.declared.asks.Changing.{Changing}
use Rattle.kms_json.specs.declared.asks.Changing.TheVariants as changing
use Rattle.kms_json.specs.declared.asks.Reading.{Reading}
use Rattle.kms_json.specs.declared.asks.Reading.TheVariants as reading
use Rattle.kms_json.specs.declared.refusals.Refusal.{Refusal}
use Rattle.account_rows.specs.declared.entries.What.{What}
use Rattle.account_steps.specs.declared.places.Uses.{Uses}
use Rattle.account_steps.specs.View.{View}
use Rattle.account_steps.specs.declared.questions.Question.{Question as Posed}
use Rattle.account_steps.specs.Parts.{ReadParts, ChangeParts, Outcome, reads, changes, questions_of}
use Rattle.account_steps.specs.declared.parts.Made.{Made}
use Rattle.account_steps.specs.declared.stops.Stop.{Stop}
use Rattle.account_steps.specs.declared.stops.Stop.TheVariants as stop
use Rattle.account_keys.specs.Keys.{creates_key, describes_key}
use Rattle.account_keys.specs.Policies.{puts_policy, gets_policy}
use Rattle.account_keys.specs.declared.key_changes.KeyChange.TheVariants as change
use Rattle.account_keys.specs.KeyChanges.{changes_key, gets_rotation_status}
use Rattle.account_keys.specs.declared.alias_changes.AliasChange.TheVariants as alias
use Rattle.account_keys.specs.Aliases.{changes_alias}
use Rattle.account_keys.specs.Grants.{creates_grant, retires_grant, revokes_grant}
use Rattle.account_lists.specs.declared.lists.AccountList.TheVariants as all
use Rattle.account_lists.specs.declared.lists.KeyList.TheVariants as of
use Rattle.account_lists.specs.Lists.{lists_in, lists_on}
use Rattle.account_crypto.specs.Crypto.{encrypts, decrypts, re_encrypts, generates_data_key, generates_random, generates_mac, verifies_mac}
use Rattle.account_tags.specs.Tagging.{tags_key, untags_key, lists_tags}
use Rattle.account_crypto.specs.declared.data_keys.DataKeyForm.TheVariants as form

-- what an operation says of the steps, whatever its references name and its own refusals give
pub record AnyChangeParts : Type 1 where
  pub Found : Type 0
  pub Ready : Type 0
  pub parts : ChangeParts Found Ready

pub record AnyReadParts : Type 1 where
  pub Found : Type 0
  pub Ready : Type 0
  pub parts : ReadParts Found Ready

abbrev pub any_change : {F R : Type 0} → ChangeParts F R → AnyChangeParts
any_change {F} {R} parts = record { Found = F; Ready = R; parts = parts }

abbrev pub any_read : {F R : Type 0} → ReadParts F R → AnyReadParts
any_read {F} {R} parts = record { Found = F; Ready = R; parts = parts }

-- those that change the account
abbrev pub change_parts : View → Changing → AnyChangeParts
change_parts view (changing.CreateKey x) = any_change (creates_key view x)
change_parts view (changing.PutKeyPolicy key_id text bypass) = any_change (puts_policy view key_id text bypass)
change_parts view (changing.UpdateKeyDescription key_id text) = any_change (changes_key view key_id (change.Describe text))
change_parts view (changing.EnableKey key_id) = any_change (changes_key view key_id change.Enable)
change_parts view (changing.DisableKey key_id) = any_change (changes_key view key_id change.Disable)
change_parts view (changing.ScheduleKeyDeletion key_id days) = any_change (changes_key view key_id (change.ScheduleDeletion days))
change_parts view (changing.CancelKeyDeletion key_id) = any_change (changes_key view key_id change.CancelDeletion)
change_parts view (changing.EnableKeyRotation key_id period) = any_change (changes_key view key_id (change.RotateEvery period))
change_parts view (changing.DisableKeyRotation key_id) = any_change (changes_key view key_id change.RotateNoMore)
change_parts view (changing.RotateKeyOnDemand key_id) = any_change (changes_key view key_id change.RotateNow)
change_parts view (changing.CreateAlias name key_id) = any_change (changes_alias view name (alias.Create key_id))
change_parts view (changing.UpdateAlias name key_id) = any_change (changes_alias view name (alias.Update key_id))
change_parts view (changing.DeleteAlias name) = any_change (changes_alias view name alias.Delete)
change_parts view (changing.CreateGrant x) = any_change (creates_grant view x)
change_parts view (changing.RetireGrant grant dry_run) = any_change (retires_grant view grant dry_run)
change_parts view (changing.RevokeGrant key_id grant_id dry_run) = any_change (revokes_grant view key_id grant_id dry_run)
change_parts view (changing.TagResource key_id tags) = any_change (tags_key view key_id tags)
change_parts view (changing.UntagResource key_id keys) = any_change (untags_key view key_id keys)

-- those that don't
abbrev pub read_parts : View → Reading → AnyReadParts
read_parts view (reading.DescribeKey key_id tokens) = any_read (describes_key view key_id tokens)
read_parts view (reading.ListKeys page) = any_read (lists_in view all.Keys page)
read_parts view (reading.ListAliases key_id page) = any_read (lists_in view (all.Aliases key_id) page)
read_parts view (reading.ListRetirableGrants retiring page) = any_read (lists_in view (all.RetirableGrants retiring) page)
read_parts view (reading.ListKeyPolicies key_id page) = any_read (lists_on view key_id of.Policies page)
read_parts view (reading.ListKeyRotations key_id page) = any_read (lists_on view key_id of.Rotations page)
read_parts view (reading.ListGrants x) = any_read (lists_on view x.key_id (of.Grants x.grant_id x.grantee) x.page)
read_parts view (reading.GetKeyPolicy key_id) = any_read (gets_policy view key_id)
read_parts view (reading.GetKeyRotationStatus key_id) = any_read (gets_rotation_status view key_id)
read_parts view (reading.Encrypt x) = any_read (encrypts view x)
read_parts view (reading.Decrypt x) = any_read (decrypts view x)
read_parts view (reading.ReEncrypt x) = any_read (re_encrypts view x)
read_parts view (reading.GenerateDataKey x recipient) = any_read (generates_data_key view x (form.Plaintext recipient))
read_parts view (reading.GenerateDataKeyWithoutPlaintext x) = any_read (generates_data_key view x form.Sealed)
read_parts view (reading.GenerateRandom size custom_key_store recipient) = any_read (generates_random view size custom_key_store recipient)
read_parts view (reading.GenerateMac x) = any_read (generates_mac view x)
read_parts view (reading.VerifyMac x) = any_read (verifies_mac view x)
read_parts view (reading.ListResourceTags key_id page) = any_read (lists_tags view key_id page)

-- what a request comes to
abbrev pub change_outcome : View → Changing → Result (Outcome (Option What)) Refusal
change_outcome view body = changes view (change_parts view body).parts

abbrev pub read_outcome : View → Reading → Result (Outcome Uses) Refusal
read_outcome view body = reads view (read_parts view body).parts

-- what the step of authority asks about it, where all that it names is there
abbrev pub change_asked : View → Changing → Result (List Posed) Refusal
change_asked view body = questions_of view (change_parts view body).parts.parts

abbrev pub read_asked : View → Reading → Result (List Posed) Refusal
read_asked view body = questions_of view (read_parts view body).parts.parts

-- an answer says so; of want of memory nothing is said
abbrev pub Says : {A : Type 0} → (Result A Refusal → Type 0) → Result A Stop → Type 0
Says Told (Ok answer) = Told (Ok answer)
Says Told (Err (stop.Refused why)) = Told (Err why)
Says Told (Err stop.NoMemory) = Unit {0}

-- what was made, as an outcome
abbrev pub outcome_told : Result Made Refusal → Result (Outcome (Option What)) Refusal
outcome_told (Ok made) = Ok (record { reply = made.reply; effect = made.what })
outcome_told (Err why) = Err why
