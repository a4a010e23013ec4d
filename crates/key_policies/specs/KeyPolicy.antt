-- The policies of keys, by their texts (AWS KMS Developer Guide, "Key policies" and "Default key policy"; IAM User Guide,
-- "Grammar of the IAM JSON policy language").
use Rattle.std.specs.Prelude.{ℕ, if◌then◌else◌, List, [], ◌++◌, length, codes, nat_lt, Option, Some, None}
use Rattle.serde_json.specs.Data.{Data}
use Rattle.serde_json.specs.Read.{read as read_text}
use Rattle.policy_doc.specs.Documents.{first_fault, statements_of}
use Rattle.policy_doc.specs.declared.faults.PolicyFault.{PolicyFault}
use Rattle.policy_doc.specs.declared.faults.PolicyFault.TheVariants as fault
use Rattle.policy_doc.specs.declared.policies.Policy.{Policy}
use Rattle.policy_doc.specs.declared.policies.PolicyKind.TheVariants.{Key}

-- ---- a document

-- the first fault of a document's bytes: more than 32,768 of them, no JSON, and then that of its value
abbrev pub value_fault : Option Data → Option PolicyFault
value_fault None = Some fault.NotJson
value_fault (Some d) = first_fault Key d

unfoldable pub fault_in : List ℕ → Option PolicyFault
fault_in text = if nat_lt 32768 (length text) then Some fault.TooLong else value_fault (read_text text)

-- the policy of a document; one with a fault has no statements
abbrev pub no_statements : Policy
no_statements = record { kind = Key; statements = [] }

abbrev pub value_policy : Option Data → Policy
value_policy None = no_statements
value_policy (Some d) = record { kind = Key; statements = statements_of Key d }

abbrev pub policy_without : Option PolicyFault → Option Data → Policy
policy_without (Some why) value = no_statements
policy_without None value = value_policy value

unfoldable pub policy_in : List ℕ → Policy
policy_in text = policy_without (fault_in text) (read_text text)

-- ---- the default policy

-- its text before the account's number, and behind it
unfoldable pub default_front : List ℕ
default_front = codes "{\"Version\":\"2012-10-17\",\"Id\":\"key-default-1\",\"Statement\":[{\"Sid\":\"Enable IAM User Permissions\",\"Effect\":\"Allow\",\"Principal\":{\"AWS\":\"arn:aws:iam::"

unfoldable pub default_back : List ℕ
default_back = codes ":root\"},\"Action\":\"kms:*\",\"Resource\":\"*\"}]}"

unfoldable pub default_text : List ℕ → List ℕ
default_text account = default_front ++ (account ++ default_back)

-- the policy that this text is
unfoldable pub default_policy : List ℕ → Policy
default_policy account = policy_in (default_text account)
