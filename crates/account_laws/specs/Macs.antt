-- The law of MACs: what GenerateMac answered, VerifyMac takes, and no other MAC (AWS KMS API Reference, GenerateMac and VerifyMac).
use Rattle.std.specs.Prelude.{◌≡◌, ◌≢◌, List, ℕ, ◌++◌, length, false, None, Ok}
use Rattle.kms_names.specs.declared.actions.Action.TheVariants as action
use Rattle.kms_json.specs.declared.asks.Ask.{Ask}
use Rattle.kms_json.specs.declared.asks.AskBody.TheVariants as ask
use Rattle.kms_json.specs.declared.asks.Reading.TheVariants as reading
use Rattle.kms_json.specs.declared.asks.macs.GenerateMac.{GenerateMac}
use Rattle.kms_json.specs.declared.asks.macs.VerifyMac.{VerifyMac}
use Rattle.kms_json.specs.declared.refusals.Refusal.TheVariants as refusal
use Rattle.kms_json.specs.declared.replies.Reply.{Reply}
use Rattle.kms_json.specs.declared.replies.Reply.TheVariants as reply
use Rattle.authority.specs.Setting.{callers_policies}
use Rattle.authority.specs.Allowed.{AreIdentityPolicies}
use Rattle.account_rows.specs.declared.entries.Entry.{Entry}
use Rattle.account_steps.specs.declared.checks.Named.{Named}
use Rattle.account_steps.specs.declared.facts.RealmFacts.{RealmFacts}
use Rattle.account_steps.specs.declared.places.Places.{Places}
use Rattle.account_steps.specs.Authority.{on_key, of_mac, MayAsk}
use Rattle.account_steps.specs.Parts.{dead_token}
use Rattle.account_steps.specs.Steps.{key_of, arn_of}
use Rattle.account_steps.specs.View.{view_of}
use Rattle.account_core.specs.Decide.{lacking}
use Rattle.account_core.specs.Fitting as Fitting
use Rattle.account_laws.specs.Laws.{IsSameAccount, reply_to, exception_of, unless_excepted}

-- the reply to the request is this MAC of a message, by an algorithm, under the key of this id, which the request names
pub record HasMac (facts : RealmFacts) (history : List Entry) (x : Ask) (places : Places) (message algorithm mac key : List ℕ) : Type 0 where
  pub fields : GenerateMac
  pub body : x.body ≡ ask.Read (reading.GenerateMac fields)
  pub of_message : fields.message ≡ message
  pub by_algorithm : fields.algorithm ≡ algorithm
  pub named : Named
  pub is_named : key_of (view_of facts history x places) fields.key_id ≡ Ok named
  pub right_key : named.row.key ≡ key
  pub replied : reply_to facts history x places ≡ reply.Mac mac (arn_of facts key)

-- the request asks, at a history, whether a MAC is that of a message, by an algorithm, under the key of this id, which it names. The key is there, and not gone; the caller
-- may verify MACs under it; the request's grant tokens are those of live grants, it has no DryRun, and waits for no more entries
pub record AsksToVerify (facts : RealmFacts) (history : List Entry) (y : Ask) (places : Places) (message algorithm key : List ℕ) : Type 0 where
  pub fields : VerifyMac
  pub body : y.body ≡ ask.Read (reading.VerifyMac fields)
  pub of_message : fields.message ≡ message
  pub by_algorithm : fields.algorithm ≡ algorithm
  pub named : Named
  pub is_named : key_of (view_of facts history y places) fields.key_id ≡ Ok named
  pub right_key : named.row.key ≡ key
  pub may : MayAsk (view_of facts history y places) (on_key action.VerifyMac named.row (of_mac (view_of facts history y places) named.row named.alias algorithm))
  pub live_tokens : dead_token (view_of facts history y places) fields.grant_tokens ≡ None
  pub no_dry_run : fields.dry_run ≡ false
  pub there : lacking (length history) y.after ≡ None

-- what VerifyMac answers of a MAC, where this is the right one
pub record Verifies (wanted : List ℕ) (given : List ℕ) (arn : List ℕ) (except : Reply → Reply) (answer : Reply) : Type 0 where
  pub right : given ≡ wanted → answer ≡ except (reply.MacValid arn)
  pub wrong : given ≢ wanted → answer ≡ except (reply.Refused refusal.InvalidMac)

-- the MAC that GenerateMac answered is valid to VerifyMac, with the ARN of the same key, at that history and at every one that goes on from it, also in a later run that loaded it, for whoever may
-- verify and by whatever pass, where the key is enabled, and every other MAC is KMSInvalidMacException there; where the key is disabled, or its deletion is scheduled,
-- the answer is the exception of that state
abbrev pub MacsAreVerifiedAgain : Type 0
MacsAreVerifiedAgain =
    (facts later : RealmFacts) (history more : List Entry) (x y : Ask) (places other_places : Places) (message algorithm mac key : List ℕ) → IsSameAccount facts later
    → Fitting.IsHeld later (history ++ more) → HasMac facts history x places message algorithm mac key
    → AreIdentityPolicies (callers_policies later.identities y.caller) → (asks : AsksToVerify later (history ++ more) y other_places message algorithm key)
    → Verifies mac asks.fields.mac (arn_of later key) (unless_excepted (exception_of (arn_of later key) asks.named.row.stored)) (reply_to later (history ++ more) y other_places)
