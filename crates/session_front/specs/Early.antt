-- What a message asks of the account, or why it is refused before the account is asked.
use Rattle.std.specs.Prelude.{◌≡◌, ℕ, List, codes, Option, None, Some, Result, Ok, Err}
use Rattle.kms_names.specs.declared.principals.Principal.{Principal}
use Rattle.kms_json.specs.declared.asks.Ask.{Ask}
use Rattle.kms_json.specs.declared.asks.AskBody.{AskBody}
use Rattle.kms_json.specs.declared.asks.JsonFault.{JsonFault}
use Rattle.kms_json.specs.declared.refusals.Refusal.{Refusal}
use Rattle.kms_json.specs.declared.refusals.Refusal.TheVariants as refusal
use Rattle.kms_json.specs.Asks.{asked, refusal_of}
use Rattle.kms_names.specs.Principal.{account_of}
use Rattle.http_front.specs.Message.{Message}
use Rattle.sigv4_check.specs.declared.faults.AuthFault.{AuthFault}
use Rattle.sigv4_check.specs.declared.faults.AuthFault.TheVariants as auth
use Rattle.session_front.specs.declared.asked.After.{After}
use Rattle.session_front.specs.declared.asked.After.TheVariants.{Entries, Malformed}
use Rattle.session_front.specs.declared.refused.Early.{Early}
use Rattle.session_front.specs.declared.refused.Early.TheVariants.{Fault, NoMemory}
use Rattle.session_front.specs.declared.trust.Trust.{Trust}
use Rattle.session_front.specs.Asked.{asked_in, after_in}
use Rattle.session_front.specs.Callers.{caller_of, refusal_for}

-- the header x-kms-after is judged after all that the body asks
abbrev pub ask_by : Principal → ℕ → Result AskBody Refusal → After → Result Ask Refusal
ask_by caller c (Ok body) (Entries after) = Ok (record { body = body; caller = caller; moment = c; after = after })
ask_by caller c (Ok body) Malformed = Err (refusal.Validation (codes "x-kms-after"))
ask_by caller c (Err why) after = Err why

-- who asks is judged before what is asked
abbrev pub ask_from : Result Principal AuthFault → Message → ℕ → Result Ask Refusal
ask_from (Ok caller) m c = ask_by caller c (asked_in m) (after_in m)
ask_from (Err why) m c = Err (refusal_for why)

-- what a message asks of a service of this region, at this answer of the clock, or the refusal that no account decides
abbrev pub ask_of : Trust → List ℕ → Message → ℕ → Result Ask Refusal
ask_of trust region m c = ask_from (caller_of trust region m c) m c

-- the answer is that, or that memory was wanting
abbrev pub IsAskOrWants : Result Ask Refusal → Result Ask Early → Type 0
IsAskOrWants wanted (Ok x) = wanted ≡ Ok x
IsAskOrWants wanted (Err (Fault why)) = wanted ≡ Err why
IsAskOrWants wanted (Err NoMemory) = Unit {0}

-- where whoever may be the caller is of this account: the body is one that some request asks, the caller is of the account, and the
-- moment is the clock's answer
pub record IsAskAt (account : List ℕ) (c : ℕ) (x : Ask) : Type 0 where
  pub target : List ℕ
  pub text : List ℕ
  pub body : asked target text ≡ Ok x.body
  pub caller : account_of x.caller ≡ account
  pub moment : x.moment ≡ c

-- ---- the two reasons, as they are told

abbrev pub told_as : Option Refusal → Early
told_as None = NoMemory
told_as (Some why) = Fault why

-- why nobody signed a message
abbrev pub unsigned : AuthFault → Early
unsigned auth.NoMemory = NoMemory
unsigned auth.NoAuth = Fault refusal.MissingAuthentication
unsigned auth.Incomplete = Fault refusal.IncompleteSignature
unsigned auth.UnknownKey = Fault refusal.UnrecognizedClient
unsigned auth.Expired = Fault refusal.RequestExpired
unsigned auth.BadSignature = Fault refusal.InvalidSignature

-- why a target and a body ask nothing
abbrev pub unread : JsonFault → Early
unread why = told_as (refusal_of why)
