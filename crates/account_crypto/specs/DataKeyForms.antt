-- What a data key is given as.
use Rattle.std.specs.Prelude.{Bool, false}
use Rattle.kms_names.specs.declared.actions.Action.{Action}
use Rattle.kms_names.specs.declared.actions.Action.TheVariants as action
use Rattle.account_crypto.specs.declared.data_keys.DataKeyForm.{DataKeyForm}
use Rattle.account_crypto.specs.declared.data_keys.DataKeyForm.TheVariants.{Plaintext, Sealed}

-- what the call is named
abbrev pub data_key_action : DataKeyForm → Action
data_key_action (Plaintext recipient) = action.GenerateDataKey
data_key_action Sealed = action.GenerateDataKeyWithoutPlaintext

-- whether a recipient is given
abbrev pub has_recipient : DataKeyForm → Bool
has_recipient (Plaintext recipient) = recipient
has_recipient Sealed = false
