-- Actions: their names, and their order.
use Rattle.std.specs.Prelude.{ℕ, ◌==◌, Bool, List, [], ◌∷◌, ◌++◌, codes}
use Rattle.std.specs.List.{list_any}
use Rattle.kms_names.specs.declared.actions.Action.{Action}
use Rattle.kms_names.specs.declared.actions.Action.TheVariants as action

-- the printed name
abbrev pub action_name : Action → List ℕ
action_name action.CreateKey = codes "CreateKey"
action_name action.DescribeKey = codes "DescribeKey"
action_name action.ListKeys = codes "ListKeys"
action_name action.EnableKey = codes "EnableKey"
action_name action.DisableKey = codes "DisableKey"
action_name action.ScheduleKeyDeletion = codes "ScheduleKeyDeletion"
action_name action.CancelKeyDeletion = codes "CancelKeyDeletion"
action_name action.EnableKeyRotation = codes "EnableKeyRotation"
action_name action.DisableKeyRotation = codes "DisableKeyRotation"
action_name action.GetKeyRotationStatus = codes "GetKeyRotationStatus"
action_name action.RotateKeyOnDemand = codes "RotateKeyOnDemand"
action_name action.ListKeyRotations = codes "ListKeyRotations"
action_name action.PutKeyPolicy = codes "PutKeyPolicy"
action_name action.GetKeyPolicy = codes "GetKeyPolicy"
action_name action.ListKeyPolicies = codes "ListKeyPolicies"
action_name action.UpdateKeyDescription = codes "UpdateKeyDescription"
action_name action.CreateAlias = codes "CreateAlias"
action_name action.UpdateAlias = codes "UpdateAlias"
action_name action.DeleteAlias = codes "DeleteAlias"
action_name action.ListAliases = codes "ListAliases"
action_name action.CreateGrant = codes "CreateGrant"
action_name action.ListGrants = codes "ListGrants"
action_name action.ListRetirableGrants = codes "ListRetirableGrants"
action_name action.RetireGrant = codes "RetireGrant"
action_name action.RevokeGrant = codes "RevokeGrant"
action_name action.Encrypt = codes "Encrypt"
action_name action.Decrypt = codes "Decrypt"
action_name action.ReEncryptFrom = codes "ReEncryptFrom"
action_name action.GenerateDataKey = codes "GenerateDataKey"
action_name action.GenerateDataKeyWithoutPlaintext = codes "GenerateDataKeyWithoutPlaintext"
action_name action.GenerateRandom = codes "GenerateRandom"
action_name action.ReEncryptTo = codes "ReEncryptTo"
action_name action.GenerateMac = codes "GenerateMac"
action_name action.VerifyMac = codes "VerifyMac"
action_name action.TagResource = codes "TagResource"
action_name action.UntagResource = codes "UntagResource"
action_name action.ListResourceTags = codes "ListResourceTags"

-- what the globs of policies are matched with
abbrev pub action_text : Action → List ℕ
action_text a = codes "kms:" ++ action_name a

-- all actions in order: the first of the operations, the second action of ReEncrypt, and the operations on MACs and on tags
abbrev pub all_actions : List Action
all_actions =
    action.CreateKey ∷ action.DescribeKey ∷ action.ListKeys ∷ action.EnableKey ∷ action.DisableKey ∷ action.ScheduleKeyDeletion ∷ action.CancelKeyDeletion ∷ action.EnableKeyRotation ∷ action.DisableKeyRotation ∷ action.GetKeyRotationStatus ∷ action.RotateKeyOnDemand ∷ action.ListKeyRotations ∷ action.PutKeyPolicy ∷ action.GetKeyPolicy ∷ action.ListKeyPolicies ∷ action.UpdateKeyDescription ∷ action.CreateAlias ∷ action.UpdateAlias ∷ action.DeleteAlias ∷ action.ListAliases ∷ action.CreateGrant ∷ action.ListGrants ∷ action.ListRetirableGrants ∷ action.RetireGrant ∷ action.RevokeGrant ∷ action.Encrypt ∷ action.Decrypt ∷ action.ReEncryptFrom ∷ action.GenerateDataKey ∷ action.GenerateDataKeyWithoutPlaintext ∷ action.GenerateRandom ∷ action.ReEncryptTo ∷ action.GenerateMac ∷ action.VerifyMac ∷ action.TagResource ∷ action.UntagResource ∷ action.ListResourceTags ∷ []

-- the place in that order
abbrev pub action_number : Action → ℕ
action_number action.CreateKey = 0
action_number action.DescribeKey = 1
action_number action.ListKeys = 2
action_number action.EnableKey = 3
action_number action.DisableKey = 4
action_number action.ScheduleKeyDeletion = 5
action_number action.CancelKeyDeletion = 6
action_number action.EnableKeyRotation = 7
action_number action.DisableKeyRotation = 8
action_number action.GetKeyRotationStatus = 9
action_number action.RotateKeyOnDemand = 10
action_number action.ListKeyRotations = 11
action_number action.PutKeyPolicy = 12
action_number action.GetKeyPolicy = 13
action_number action.ListKeyPolicies = 14
action_number action.UpdateKeyDescription = 15
action_number action.CreateAlias = 16
action_number action.UpdateAlias = 17
action_number action.DeleteAlias = 18
action_number action.ListAliases = 19
action_number action.CreateGrant = 20
action_number action.ListGrants = 21
action_number action.ListRetirableGrants = 22
action_number action.RetireGrant = 23
action_number action.RevokeGrant = 24
action_number action.Encrypt = 25
action_number action.Decrypt = 26
action_number action.ReEncryptFrom = 27
action_number action.GenerateDataKey = 28
action_number action.GenerateDataKeyWithoutPlaintext = 29
action_number action.GenerateRandom = 30
action_number action.ReEncryptTo = 31
action_number action.GenerateMac = 32
action_number action.VerifyMac = 33
action_number action.TagResource = 34
action_number action.UntagResource = 35
action_number action.ListResourceTags = 36

-- whether an action is one of these
abbrev pub is_among : List Action → Action → Bool
is_among actions a = list_any (λ b. action_number b == action_number a) actions
