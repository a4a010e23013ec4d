-- Sets of grant operations.
use Rattle.std.specs.Prelude.{◌≡◌, ℕ, Bool, true, if◌then◌else◌, List, [], ◌∷◌, filter, fold}
use Rattle.std.specs.List.{list_any}
use Rattle.std.specs.Str.{bytes_eq}
use Rattle.kms_names.specs.declared.actions.Action.{Action}
use Rattle.kms_names.specs.declared.actions.Action.TheVariants as action
use Rattle.kms_names.specs.declared.operations.GrantOp.{GrantOp}
use Rattle.kms_names.specs.declared.operations.GrantOp.TheVariants.{Encrypt, Decrypt, GenerateDataKey, GenerateDataKeyWithoutPlaintext, ReEncryptFrom, ReEncryptTo, CreateGrant, RetireGrant, DescribeKey, GenerateMac, VerifyMac}
use Rattle.kms_names.specs.Action.{action_name}
use Rattle.kms_names.specs.ActionSet.{has_action, with_action}

-- the action of a grant operation, whose name it has
abbrev pub action_of : GrantOp → Action
action_of Encrypt = action.Encrypt
action_of Decrypt = action.Decrypt
action_of GenerateDataKey = action.GenerateDataKey
action_of GenerateDataKeyWithoutPlaintext = action.GenerateDataKeyWithoutPlaintext
action_of ReEncryptFrom = action.ReEncryptFrom
action_of ReEncryptTo = action.ReEncryptTo
action_of CreateGrant = action.CreateGrant
action_of RetireGrant = action.RetireGrant
action_of DescribeKey = action.DescribeKey
action_of GenerateMac = action.GenerateMac
action_of VerifyMac = action.VerifyMac

abbrev pub grant_op_name : GrantOp → List ℕ
grant_op_name op = action_name (action_of op)

-- all grant operations in the order in which they are printed
abbrev pub all_grant_ops : List GrantOp
all_grant_ops =
    Encrypt ∷ Decrypt ∷ GenerateDataKey ∷ GenerateDataKeyWithoutPlaintext ∷ ReEncryptFrom ∷ ReEncryptTo ∷ CreateGrant ∷ RetireGrant ∷ DescribeKey ∷ GenerateMac ∷ VerifyMac ∷ []

-- an operation is in the set of actions whose bits these are: its action is
abbrev pub contains : ℕ → GrantOp → Bool
contains ops op = has_action ops (action_of op)

-- a set with one more operation
abbrev pub with_op : GrantOp → ℕ → ℕ
with_op op ops = with_action (action_of op) ops

-- the set of the operations that pass a test
abbrev pub those : (GrantOp → Bool) → ℕ
those test = fold (λ ops op. if test op then with_op op ops else ops) 0 all_grant_ops

-- whether one of these texts is the operation's name
abbrev pub is_named : List (List ℕ) → GrantOp → Bool
is_named names op = list_any (λ name. bytes_eq name (grant_op_name op)) names

-- the operations of a set in order
abbrev pub members : ℕ → List GrantOp
members ops = filter (contains ops) all_grant_ops

-- each operation of the one set is in the other
abbrev pub IsSubset : ℕ → ℕ → Type 0
IsSubset ops others = (op : GrantOp) → contains ops op ≡ true → contains others op ≡ true
