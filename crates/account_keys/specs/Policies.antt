-- The operations on the policies of keys (AWS KMS API Reference, PutKeyPolicy, GetKeyPolicy): what each says of the steps.
use Rattle.std.specs.Prelude.{◌≡◌, ℕ, List, [], ◌∷◌, Bool, false, if◌then◌else◌, Option, Some, None, option_map, Ok, ⊤}
use Rattle.kms_names.specs.declared.actions.Action.TheVariants as action
use Rattle.kms_json.specs.declared.refusals.Refusal.{Refusal}
use Rattle.kms_json.specs.declared.refusals.Refusal.TheVariants as refusal
use Rattle.kms_json.specs.declared.refusals.PolicyFlaw.{PolicyFlaw}
use Rattle.kms_json.specs.declared.refusals.PolicyFlaw.TheVariants as flaw
use Rattle.kms_json.specs.declared.replies.Reply.TheVariants as reply
use Rattle.policy_doc.specs.declared.faults.PolicyFault.{PolicyFault}
use Rattle.policy_doc.specs.declared.faults.PolicyFault.TheVariants as fault
use Rattle.policy_doc.specs.declared.policies.Policy.{Policy}
use Rattle.key_policies.specs.KeyPolicy.{fault_in, policy_in}
use Rattle.account_rows.specs.declared.entries.What.TheVariants as what
use Rattle.key_states.specs.declared.rows.KeyRow.{KeyRow}
use Rattle.account_steps.specs.declared.stops.Stop.{Stop}
use Rattle.account_steps.specs.declared.stops.Stop.TheVariants as stop
use Rattle.account_steps.specs.Places.{nothing_used}
use Rattle.account_steps.specs.Steps.{unless, only_key_of}
use Rattle.account_steps.specs.Authority.{KeySaid, said_key, on_key, may_on_key, of_said, of_key}
use Rattle.account_steps.specs.View.{View}
use Rattle.account_steps.specs.Parts.{ReadParts, ChangeParts}

-- a fault of a document, as a refusal tells it
abbrev pub flaw_of : PolicyFault → PolicyFlaw
flaw_of fault.TooLong = flaw.TooLong
flaw_of fault.NotJson = flaw.NotJson
flaw_of (fault.BadShape path) = flaw.BadShape path
flaw_of (fault.Unsupported path) = flaw.Unsupported path
flaw_of fault.NoMemory = flaw.NotJson

-- the refusal of a document with this fault
abbrev pub malformed : PolicyFault → Refusal
malformed why = refusal.MalformedPolicy (flaw_of why)

-- the stop at a fault, and at the first of a document, unless for want of memory
abbrev pub StopsAt : PolicyFault → Stop → Type 0
StopsAt fault.NoMemory s = s ≡ stop.NoMemory
StopsAt why s = s ≡ stop.Refused (malformed why)

abbrev pub IsStopAt : Option PolicyFault → Stop → Type 0
IsStopAt first (stop.Refused why) = option_map malformed first ≡ Some why
IsStopAt first stop.NoMemory = Unit {0}

-- with this policy in place the caller may put the key's policy again
unfoldable pub may_put_again : View → Policy → KeySaid → Bool
may_put_again view policy key = may_on_key view policy action.PutKeyPolicy key.key (record (of_said view key) { bypass = Some false })

-- the lockout check, which may be passed over
abbrev pub locked_out : View → Policy → KeySaid → Bool → Option Refusal
locked_out view policy key bypass = if bypass then None else (if may_put_again view policy key then None else Some (refusal.MalformedPolicy flaw.Lockout))

-- the document's fault comes first
abbrev pub refused_by : Option PolicyFault → Option Refusal → Option Refusal
refused_by (Some why) next = Some (malformed why)
refused_by None next = next

-- a new policy of a key
unfoldable pub policy_refused : View → KeySaid → List ℕ → Bool → Option Refusal
policy_refused view key text bypass = refused_by (fault_in text) (locked_out view (policy_in text) key bypass)

-- PutKeyPolicy
abbrev pub puts_policy : View → List ℕ → List ℕ → Bool → ChangeParts KeyRow ⊤
puts_policy view reference text bypass = record {
  parts = record {
    found = only_key_of view reference;
    questions = λ row. on_key action.PutKeyPolicy row (record (of_key view row) { bypass = Some bypass }) ∷ [];
    tokens = [];
    uses = λ row. record { action = action.PutKeyPolicy; key = row } ∷ [];
    own = λ row. unless (policy_refused view (said_key row) text bypass) (Ok tt);
    dry_run = false;
    reply = λ row ready. reply.Done;
  };
  does = λ row ready. Some (what.Policy row.key text);
}

-- GetKeyPolicy: the text as it was put
abbrev pub gets_policy : View → List ℕ → ReadParts KeyRow ⊤
gets_policy view reference = record {
  parts = record {
    found = only_key_of view reference;
    questions = λ row. on_key action.GetKeyPolicy row (of_key view row) ∷ [];
    tokens = [];
    uses = λ row. record { action = action.GetKeyPolicy; key = row } ∷ [];
    own = λ row. Ok tt;
    dry_run = false;
    reply = λ row ready. reply.KeyPolicy row.policy;
  };
  takes = nothing_used;
}
