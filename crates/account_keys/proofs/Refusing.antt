-- The refusals of a new policy.
use Rattle.std.proofs.Common.{◌≡◌, ◌≢◌, ℕ, List, Bool, Option, Some, None, option_map, Result, Err, sym, ap, subst}
use Rattle.std.specs.Bool.{⊤}
use Rattle.kms_json.specs.declared.refusals.Refusal.{Refusal}
use Rattle.policy_doc.specs.declared.faults.PolicyFault.{PolicyFault}
use Rattle.policy_doc.specs.declared.faults.PolicyFault.TheVariants as fault
use Rattle.policy_doc.specs.declared.policies.Policy.{Policy}
use Rattle.key_policies.specs.KeyPolicy.{fault_in, policy_in}
use Rattle.account_steps.specs.declared.stops.Stop.{Stop}
use Rattle.account_steps.specs.declared.stops.Stop.TheVariants as stop
use Rattle.account_steps.specs.Steps.{Passes}
use Rattle.account_steps.specs.Authority.{KeySaid}
use Rattle.account_steps.specs.View.{View}
use Rattle.account_keys.specs.Policies.{malformed, StopsAt, IsStopAt, refused_by, locked_out, policy_refused}

-- the stop at the fault that the document has
refused_with : (why : PolicyFault) (s : Stop) (first : Option PolicyFault) → s ≡ stop.Refused (malformed why) → first ≡ Some why → IsStopAt first s
refused_with why s first is told = subst (IsStopAt first) (sym is) (ap (option_map malformed) told)

pub told_at : (why : PolicyFault) (s : Stop) (first : Option PolicyFault) → StopsAt why s → (why ≢ fault.NoMemory → first ≡ Some why) → IsStopAt first s
told_at fault.TooLong s first is told = refused_with fault.TooLong s first is (told (λ e. cc))
told_at fault.NotJson s first is told = refused_with fault.NotJson s first is (told (λ e. cc))
told_at (fault.BadShape path) s first is told = refused_with (fault.BadShape path) s first is (told (λ e. cc))
told_at (fault.Unsupported path) s first is told = refused_with (fault.Unsupported path) s first is (told (λ e. cc))
told_at fault.NoMemory s first is told = subst (IsStopAt first) (sym is) tt

-- it comes first
stops_first : (first : Option PolicyFault) (next : Option Refusal) (s : Stop) → IsStopAt first s → Passes (refused_by first next) (Err s)
stops_first (Some why) next (stop.Refused refusal) is = is
stops_first None next (stop.Refused refusal) is = cc
stops_first first next stop.NoMemory is = tt

module _ (view : View) (key : KeySaid) (text : List ℕ) (bypass : Bool) where
  pub stops_at : (s : Stop) → IsStopAt (fault_in text) s → Passes (policy_refused view key text bypass) (Err s)
  unfolding policy_refused
  stops_at s is = stops_first (fault_in text) (locked_out view (policy_in text) key bypass) s is

  -- without a fault it is the lockout
  pub then_lockout : (policy : Policy) (result : Result ⊤ Stop) → (fault_in text ≡ None) × (policy ≡ policy_in text) → Passes (locked_out view policy key bypass) result → Passes (policy_refused view key text bypass) result
  unfolding policy_refused
  then_lockout policy result (none, is) passes =
      subst (λ (first : Option PolicyFault). Passes (refused_by first (locked_out view (policy_in text) key bypass)) result) (sym none)
      (subst (λ (p : Policy). Passes (locked_out view p key bypass) result) is passes)
