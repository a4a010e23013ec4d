-- The key that a text refers to, by what was read of it.
use Rattle.std.proofs.Common.{◌≡◌, ℕ, List, Result, Err, subst}
use Rattle.kms_names.specs.declared.faults.NameFault.{NameFault}
use Rattle.kms_names.specs.declared.references.KeyRef.{KeyRef}
use Rattle.kms_json.specs.declared.refusals.Refusal.TheVariants as refusal
use Rattle.key_states.specs.declared.rows.KeyRow.{KeyRow}
use Rattle.account_steps.specs.declared.stops.Stop.{Stop}
use Rattle.account_steps.specs.View.{View}
use Rattle.account_steps.specs.Steps.{Gives, named_by_id, named_by_alias, key_referred, reference_of, key_of, only_key_of}
use Rattle.account_steps.specs.declared.checks.Named.{Named}

module _ (view : View) (reference : List ℕ) (read : Result KeyRef NameFault) (is : read ≡ reference_of view.facts reference) where
  pub key_found : (result : Result Named Stop) → Gives (key_referred view named_by_id (named_by_alias view) read) result → Gives (key_of view reference) result
  unfolding key_of
  key_found result gives = subst (λ (r : Result KeyRef NameFault). Gives (key_referred view named_by_id (named_by_alias view) r) result) is gives

  pub only_key_found : (result : Result KeyRow Stop) → Gives (key_referred view (λ row. row) (λ name. Err refusal.InvalidArn) read) result → Gives (only_key_of view reference) result
  unfolding only_key_of
  only_key_found result gives = subst (λ (r : Result KeyRef NameFault). Gives (key_referred view (λ row. row) (λ name. Err refusal.InvalidArn) r) result) is gives
