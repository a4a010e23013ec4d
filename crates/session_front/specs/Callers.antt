-- Who asks.
use Rattle.std.specs.Prelude.{◌≡◌, ℕ, List, All, Result, Ok}
use Rattle.kms_names.specs.declared.principals.Principal.{Principal}
use Rattle.kms_json.specs.declared.refusals.Refusal.{Refusal}
use Rattle.kms_json.specs.declared.refusals.Refusal.TheVariants.{MissingAuthentication, IncompleteSignature, UnrecognizedClient, RequestExpired, InvalidSignature}
use Rattle.kms_names.specs.Principal.{account_of}
use Rattle.http_front.specs.Message.{Message}
use Rattle.sigv4_check.specs.declared.credentials.Credential.{Credential}
use Rattle.sigv4_check.specs.declared.faults.AuthFault.{AuthFault}
use Rattle.sigv4_check.specs.declared.faults.AuthFault.TheVariants.{NoAuth, Incomplete, UnknownKey, Expired, BadSignature, NoMemory}
use Rattle.sigv4_check.specs.Signer.{signer_of}
use Rattle.session_front.specs.declared.trust.Trust.{Trust}
use Rattle.session_front.specs.declared.trust.Trust.TheVariants.{Word, Signed}

-- who asks by a message of a service of this region, at this answer of the clock: the one who is trusted, or the one who signed it
abbrev pub caller_of : Trust → List ℕ → Message → ℕ → Result Principal AuthFault
caller_of (Word caller) region m clock = Ok caller
caller_of (Signed creds) region m clock = signer_of m creds region clock

-- the exception that names why nobody signed a message. Want of memory is no such reason: the last line gives it a value since every
-- reason has one
abbrev pub refusal_for : AuthFault → Refusal
refusal_for NoAuth = MissingAuthentication
refusal_for Incomplete = IncompleteSignature
refusal_for UnknownKey = UnrecognizedClient
refusal_for Expired = RequestExpired
refusal_for BadSignature = InvalidSignature
refusal_for NoMemory = InvalidSignature

-- whoever may be the caller is of this account
abbrev pub IsOfAccount : List ℕ → Trust → Type 0
IsOfAccount account (Word caller) = account_of caller ≡ account
IsOfAccount account (Signed creds) = All (λ (credential : Credential). account_of credential.principal ≡ account) creds
