-- Operations by key state (AWS KMS Developer Guide, "Key states of AWS KMS keys", the table of operations).
use Rattle.std.specs.Prelude.{List, [], ◌∷◌, Option, None, Some, if◌then◌else◌}
use Rattle.kms_names.specs.Action.{is_among}
use Rattle.kms_names.specs.declared.actions.Action.{Action}
use Rattle.kms_names.specs.declared.actions.Action.TheVariants as action
use Rattle.key_states.specs.declared.permissions.Need.{Need}
use Rattle.key_states.specs.declared.permissions.Need.TheVariants as need
use Rattle.key_states.specs.declared.permissions.StateFault.{StateFault}
use Rattle.key_states.specs.declared.permissions.StateFault.TheVariants as fault
use Rattle.key_states.specs.declared.states.State.{State}
use Rattle.key_states.specs.declared.states.State.TheVariants.{Enabled, Disabled, PendingDeletion, Gone}

-- the operations that need an enabled key
abbrev pub needing_enabled : List Action
needing_enabled =
    action.Encrypt ∷ action.Decrypt ∷ action.ReEncryptFrom ∷ action.ReEncryptTo ∷ action.GenerateDataKey ∷ action.GenerateDataKeyWithoutPlaintext
    ∷ action.GenerateMac ∷ action.VerifyMac ∷ action.CreateGrant ∷ action.EnableKeyRotation ∷ action.DisableKeyRotation ∷ action.RotateKeyOnDemand ∷ []

-- those that a disabled key takes too, and no key whose deletion is scheduled
abbrev pub needing_kept : List Action
needing_kept =
    action.EnableKey ∷ action.DisableKey ∷ action.ScheduleKeyDeletion ∷ action.UpdateKeyDescription ∷ action.TagResource ∷ action.UntagResource
    ∷ action.CreateAlias ∷ action.UpdateAlias ∷ []

-- those that only a key whose deletion is scheduled takes
abbrev pub needing_pending : List Action
needing_pending = action.CancelKeyDeletion ∷ []

-- what an operation needs of its key
abbrev pub need_of : Action → Need
need_of a =
    if is_among needing_enabled a then need.Enabled
    else if is_among needing_kept a then need.Kept
    else if is_among needing_pending a then need.Pending
    else need.Nothing

-- how the state refuses what needs this, where it does; a key that is gone is not asked
abbrev pub refusal_of : Need → State → Option StateFault
refusal_of need.Enabled Enabled = None
refusal_of need.Enabled Disabled = Some fault.Disabled
refusal_of need.Enabled PendingDeletion = Some fault.InvalidState
refusal_of need.Enabled Gone = None
refusal_of need.Kept Enabled = None
refusal_of need.Kept Disabled = None
refusal_of need.Kept PendingDeletion = Some fault.InvalidState
refusal_of need.Kept Gone = None
refusal_of need.Pending Enabled = Some fault.InvalidState
refusal_of need.Pending Disabled = Some fault.InvalidState
refusal_of need.Pending PendingDeletion = None
refusal_of need.Pending Gone = None
refusal_of need.Nothing state = None

-- how the state of its key refuses an operation
abbrev pub refusal : Action → State → Option StateFault
refusal a state = refusal_of (need_of a) state
