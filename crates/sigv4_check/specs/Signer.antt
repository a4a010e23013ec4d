-- Who signed a message, or the first reason why nobody did.
use Rattle.std.specs.Prelude.{◌≡◌, ⊤, ℕ, Bool, ◌&&◌, ◌||◌, ◌-◌, if◌then◌else◌, List, [], ◌∷◌, Option, Some, None, Result, Ok, Err, codes, take, nat_lt}
use Rattle.std.specs.Str.{bytes_eq}
use Rattle.kms_names.specs.Reading.{some_if}
use Rattle.kms_names.specs.declared.principals.Principal.{Principal}
use Rattle.http_front.specs.Heading.{Field, values_in}
use Rattle.http_front.specs.Message.{Message}
use Rattle.sigv4_check.specs.declared.credentials.Credential.{Credential}
use Rattle.sigv4_check.specs.declared.faults.AuthFault.{AuthFault}
use Rattle.sigv4_check.specs.declared.faults.AuthFault.TheVariants.{NoAuth, Incomplete, UnknownKey, Expired, BadSignature, NoMemory}
use Rattle.sigv4_check.specs.Parts.{only}
use Rattle.sigv4_check.specs.Authorization.{Claims, claims_of}
use Rattle.sigv4_check.specs.Dates.{second_of, ◌>>=◌}
use Rattle.sigv4_check.specs.SignedNames.{are_signed_names}
use Rattle.sigv4_check.specs.Canonical.{canonical_request}
use Rattle.sigv4_check.specs.Signing.{string_to_sign, signing_key_of, signature_of}
use Rattle.sigv4_check.specs.Credentials.{credential_of}

-- what a message claims, and when: its date as it is written, and its second since 1970
pub record Claim : Type 0 where
  pub claims : Claims
  pub stamp : List ℕ
  pub second : ℕ

-- the claims are of the day of the date, and of this region, and enough headers are signed
abbrev pub is_complete : List Field → List ℕ → Claims → List ℕ → Bool
is_complete fields region claims stamp =
    bytes_eq claims.date (take 8 stamp) && (bytes_eq claims.region region && are_signed_names fields claims.names)

-- the claim of a header Authorization
unfoldable pub claim_of : List Field → List ℕ → List ℕ → Option Claim
claim_of fields region value = do
  claims ← claims_of value
  stamp ← only (values_in (codes "x-amz-date") fields)
  second ← second_of stamp
  some_if (is_complete fields region claims stamp) (record { claims = claims; stamp = stamp; second = second })

abbrev pub or_incomplete : Option Claim → Result Claim AuthFault
or_incomplete None = Err Incomplete
or_incomplete (Some claim) = Ok claim

abbrev pub claim_by : List Field → List ℕ → List (List ℕ) → Result Claim AuthFault
claim_by fields region [] = Err NoAuth
claim_by fields region (value ∷ []) = or_incomplete (claim_of fields region value)
claim_by fields region (value ∷ other ∷ more) = Err Incomplete

-- the claim of a message, which has one header Authorization
unfoldable pub claim_in : List Field → List ℕ → Result Claim AuthFault
claim_in fields region = claim_by fields region (values_in (codes "Authorization") fields)

-- the signature that the claim's message has under a secret
unfoldable pub signature_under : List ℕ → Claim → List Field → List ℕ → List ℕ
signature_under secret claim fields body =
    signature_of (signing_key_of secret claim.claims.date claim.claims.region (codes "kms"))
    (string_to_sign claim.stamp claim.claims.date claim.claims.region (canonical_request fields claim.claims.names body))

-- the clock and the date differ by more than 300 seconds
abbrev pub is_far : ℕ → ℕ → Bool
is_far second clock = nat_lt 300 (second - clock) || nat_lt 300 (clock - second)

abbrev pub signer_with : Claim → List Field → List ℕ → ℕ → Option Credential → Result Principal AuthFault
signer_with claim fields body clock None = Err UnknownKey
signer_with claim fields body clock (Some credential) =
    if is_far claim.second clock then Err Expired
    else if bytes_eq (signature_under credential.secret claim fields body) claim.claims.signature then Ok credential.principal
    else Err BadSignature

abbrev pub signer_by : List Field → List ℕ → List Credential → ℕ → Result Claim AuthFault → Result Principal AuthFault
signer_by fields body creds clock (Err why) = Err why
signer_by fields body creds clock (Ok claim) = signer_with claim fields body clock (credential_of claim.claims.id creds)

-- the principal whose credential signed the message for this region, at this second of the clock; or the first reason against it
unfoldable pub signer_in : List Field → List ℕ → List Credential → List ℕ → ℕ → Result Principal AuthFault
signer_in fields body creds region clock = signer_by fields body creds clock (claim_in fields region)

abbrev pub signer_of : Message → List Credential → List ℕ → ℕ → Result Principal AuthFault
signer_of m creds region clock = signer_in m.head.fields m.body creds region clock

-- the answer is that, or that memory was wanting
abbrev pub IsOrNoMemory : Result Principal AuthFault → Result Principal AuthFault → Type 0
IsOrNoMemory value (Ok signer) = value ≡ Ok signer
IsOrNoMemory value (Err NoMemory) = ⊤
IsOrNoMemory value (Err NoAuth) = value ≡ Err NoAuth
IsOrNoMemory value (Err Incomplete) = value ≡ Err Incomplete
IsOrNoMemory value (Err UnknownKey) = value ≡ Err UnknownKey
IsOrNoMemory value (Err Expired) = value ≡ Err Expired
IsOrNoMemory value (Err BadSignature) = value ≡ Err BadSignature
