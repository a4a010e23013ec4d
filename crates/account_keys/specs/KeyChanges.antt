-- The operations on the state, the rotation and the description of a key (AWS KMS API Reference, EnableKey, DisableKey,
-- ScheduleKeyDeletion, CancelKeyDeletion, EnableKeyRotation, DisableKeyRotation, RotateKeyOnDemand, UpdateKeyDescription,
-- GetKeyRotationStatus): what each says of the steps.
use Rattle.std.specs.Prelude.{ℕ, ◌==◌, List, [], ◌∷◌, Bool, true, false, if◌then◌else◌, Option, Some, None, option_map, Ok, ⊤}
use Rattle.kms_names.specs.declared.actions.Action.{Action}
use Rattle.kms_names.specs.declared.actions.Action.TheVariants as action
use Rattle.kms_json.specs.declared.replies.AutomaticRotation.{AutomaticRotation}
use Rattle.kms_json.specs.declared.replies.Reply.{Reply}
use Rattle.kms_json.specs.declared.replies.Reply.TheVariants as reply
use Rattle.kms_json.specs.declared.refusals.Refusal.{Refusal}
use Rattle.hmac_keys.specs.declared.kinds.KeyKind.{KeyKind}
use Rattle.key_states.specs.States.{is_enabled}
use Rattle.key_states.specs.declared.rows.KeyRow.{KeyRow}
use Rattle.key_states.specs.declared.states.Stored.{Stored}
use Rattle.key_states.specs.declared.states.Stored.TheVariants as stored
use Rattle.account_rows.specs.declared.entries.What.{What}
use Rattle.account_rows.specs.declared.entries.What.TheVariants as what
use Rattle.account_rows.specs.Changes.{days_after}
use Rattle.account_keys.specs.declared.key_changes.KeyChange.{KeyChange}
use Rattle.account_keys.specs.declared.key_changes.KeyChange.TheVariants as change
use Rattle.account_steps.specs.Places.{nothing_used}
use Rattle.account_steps.specs.Steps.{unless, unrotated, only_key_of, arn_of}
use Rattle.authority.specs.Setting.{Particulars}
use Rattle.account_steps.specs.Authority.{on_key, of_key}
use Rattle.account_steps.specs.View.{View}
use Rattle.account_steps.specs.Parts.{ReadParts, ChangeParts}

abbrev pub action_of : KeyChange → Action
action_of change.Enable = action.EnableKey
action_of change.Disable = action.DisableKey
action_of (change.ScheduleDeletion days) = action.ScheduleKeyDeletion
action_of change.CancelDeletion = action.CancelKeyDeletion
action_of (change.RotateEvery period) = action.EnableKeyRotation
action_of change.RotateNoMore = action.DisableKeyRotation
action_of change.RotateNow = action.RotateKeyOnDemand
action_of (change.Describe text) = action.UpdateKeyDescription

-- what the request says to conditions, beside the key
abbrev pub said_of : KeyChange → Particulars → Particulars
said_of (change.ScheduleDeletion days) of_key = record of_key { window = Some days }
said_of (change.RotateEvery period) of_key = record of_key { period = Some period }
said_of _ of_key = of_key

-- the rotation of a key whose material isn't rotated
abbrev pub refused_for : KeyChange → KeyKind → Option Refusal
refused_for (change.RotateEvery period) kind = unrotated kind
refused_for change.RotateNoMore kind = unrotated kind
refused_for change.RotateNow kind = unrotated kind
refused_for _ kind = None

-- ---- what has nothing to do

abbrev pub is_disabled : Stored → Bool
is_disabled stored.Enabled = false
is_disabled stored.Disabled = true
is_disabled (stored.Pending date days) = false

-- automatic rotation is on, with this period
abbrev pub is_period : ℕ → Option ℕ → Bool
is_period period None = false
is_period period (Some days) = days == period

abbrev pub is_off : Option ℕ → Bool
is_off None = true
is_off (Some days) = false

-- ---- what each does

-- this is done, or there is nothing to do
abbrev pub does_unless : Bool → What → Option What
does_unless done did = if done then None else Some did

abbrev pub done_at : ℕ → KeyRow → KeyChange → Option What
done_at moment row change.Enable = does_unless (is_enabled row.stored) (what.Enable row.key)
done_at moment row change.Disable = does_unless (is_disabled row.stored) (what.Disable row.key)
done_at moment row (change.ScheduleDeletion days) = Some (what.Schedule row.key (days_after moment days) days)
done_at moment row change.CancelDeletion = Some (what.Cancel row.key)
done_at moment row (change.RotateEvery period) = does_unless (is_period period row.period) (what.RotationOn row.key period)
done_at moment row change.RotateNoMore = does_unless (is_off row.period) (what.RotationOff row.key)
done_at moment row change.RotateNow = Some (what.RotateNow row.key)
done_at moment row (change.Describe text) = Some (what.Description row.key text)

abbrev pub reply_of : View → KeyRow → KeyChange → Reply
reply_of view row (change.ScheduleDeletion days) = reply.DeletionScheduled (arn_of view.facts row.key) (days_after view.moment days) days
reply_of view row change.CancelDeletion = reply.DeletionCancelled (arn_of view.facts row.key)
reply_of view row change.RotateNow = reply.Rotated row.key
reply_of view row _ = reply.Done

-- EnableKey, DisableKey, ScheduleKeyDeletion, CancelKeyDeletion, EnableKeyRotation, DisableKeyRotation, RotateKeyOnDemand, UpdateKeyDescription
abbrev pub changes_key : View → List ℕ → KeyChange → ChangeParts KeyRow ⊤
changes_key view reference change = record {
  parts = record {
    found = only_key_of view reference;
    questions = λ row. on_key (action_of change) row (said_of change (of_key view row)) ∷ [];
    tokens = [];
    uses = λ row. record { action = action_of change; key = row } ∷ [];
    own = λ row. unless (refused_for change row.kind) (Ok tt);
    dry_run = false;
    reply = λ row ready. reply_of view row change;
  };
  does = λ row ready. done_at view.moment row change;
}

-- the next automatic rotation, and its period
abbrev pub rotation_of : KeyRow → Option AutomaticRotation
rotation_of row = option_map (λ period. record { next = row.next; period = period }) row.period

-- GetKeyRotationStatus
abbrev pub gets_rotation_status : View → List ℕ → ReadParts KeyRow ⊤
gets_rotation_status view reference = record {
  parts = record {
    found = only_key_of view reference;
    questions = λ row. on_key action.GetKeyRotationStatus row (of_key view row) ∷ [];
    tokens = [];
    uses = λ row. record { action = action.GetKeyRotationStatus; key = row } ∷ [];
    own = λ row. unless (unrotated row.kind) (Ok tt);
    dry_run = false;
    reply = λ row ready. reply.RotationStatus row.key (rotation_of row);
  };
  takes = nothing_used;
}
