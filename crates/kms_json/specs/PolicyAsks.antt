-- The fields of the operations on key policies, in the order in which they are judged, and what each asks by what is given to them (AWS KMS API Reference, PutKeyPolicy and GetKeyPolicy).
use Rattle.std.specs.Prelude.{List, [], ◌∷◌, codes, ℕ}
use Rattle.kms_json.specs.declared.fields.Kind.TheVariants.{SomeText, PolicyName, Flag}
use Rattle.kms_json.specs.declared.given.Given.{Given}
use Rattle.kms_json.specs.declared.asks.Changing.{Changing}
use Rattle.kms_json.specs.declared.asks.Changing.TheVariants as changing
use Rattle.kms_json.specs.declared.asks.Reading.{Reading}
use Rattle.kms_json.specs.declared.asks.Reading.TheVariants as reading
use Rattle.kms_json.specs.Given.{text_in, flag_in}
use Rattle.kms_json.specs.Fields.{FieldRow, always, maybe, field, key_reference}
use Rattle.kms_json.specs.PageAsks.{page}

abbrev pub put_key_policy_fields : List FieldRow
put_key_policy_fields =
    key_reference (codes "KeyId") always ∷
    field (codes "PolicyName") PolicyName maybe ∷
    field (codes "Policy") SomeText always ∷
    field (codes "BypassPolicyLockoutSafetyCheck") Flag maybe ∷ []

abbrev pub get_key_policy_fields : List FieldRow
get_key_policy_fields =
    key_reference (codes "KeyId") always ∷
    field (codes "PolicyName") PolicyName maybe ∷ []

abbrev pub put_key_policy : (List ℕ → Given) → Changing
put_key_policy at = changing.PutKeyPolicy (text_in (at (codes "KeyId"))) (text_in (at (codes "Policy"))) (flag_in (at (codes "BypassPolicyLockoutSafetyCheck")))

abbrev pub list_key_policies : (List ℕ → Given) → Reading
list_key_policies at = reading.ListKeyPolicies (text_in (at (codes "KeyId"))) (page 100 at)

abbrev pub get_key_policy : (List ℕ → Given) → Reading
get_key_policy at = reading.GetKeyPolicy (text_in (at (codes "KeyId")))
