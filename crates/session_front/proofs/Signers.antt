-- Who may be the caller of a message.
use Rattle.std.proofs.Common.{◌≡◌, ◌≢◌, ℕ, List, [], ◌∷◌, Bool, true, false, if◌then◌else◌, Option, Some, None, Result, Ok, Err, refl, subst}
use Rattle.std.specs.Prelude.{All}
use Rattle.std.specs.Str.{bytes_eq}
use Rattle.std.proofs.lemmas.List.Elements.{All-head, All-tail}
use Rattle.kms_names.specs.declared.principals.Principal.{Principal}
use Rattle.kms_names.specs.Principal.{account_of}
use Rattle.http_front.specs.Heading.{Field}
use Rattle.http_front.specs.Message.{Message}
use Rattle.sigv4_check.specs.declared.credentials.Credential.{Credential}
use Rattle.sigv4_check.specs.declared.faults.AuthFault.{AuthFault}
use Rattle.sigv4_check.specs.declared.faults.AuthFault.TheVariants.{NoAuth, Incomplete, UnknownKey, Expired, BadSignature, NoMemory}
use Rattle.sigv4_check.specs.Credentials.{credential_of}
use Rattle.sigv4_check.specs.Signer.{Claim, claim_in, is_far, signature_under, signer_with, signer_by, signer_in, IsOrNoMemory}
use Rattle.session_front.specs.declared.trust.Trust.{Trust}
use Rattle.session_front.specs.declared.trust.Trust.TheVariants.{Word, Signed}
use Rattle.session_front.specs.Callers.{caller_of, IsOfAccount}

-- ---- the signer is the principal of one of the credentials

module _ (P : Credential → Type 0) where
  first_or : (is : Bool) (x c : Credential) (rest : Option Credential) → (if is then Some x else rest) ≡ Some c → P x → (rest ≡ Some c → P c) → P c
  first_or true x c rest e here later = let same : x ≡ c = cc in subst P same here
  first_or false x c rest e here later = later e

  found_has : (id : List ℕ) (creds : List Credential) (c : Credential) → All P creds → credential_of id creds ≡ Some c → P c
  found_has id [] c all e = cc
  found_has id (x ∷ creds) c all e =
      first_or (bytes_eq x.id id) x c (credential_of id creds) e (All-head P x creds all) (λ e. found_has id creds c (All-tail P x creds all) e)

signed_where : (far same : Bool) (q p : Principal) → (if far then Err Expired else if same then Ok q else Err BadSignature) ≡ Ok p → q ≡ p
signed_where true same q p e = cc
signed_where false true q p e = cc
signed_where false false q p e = cc

module _ (P : Principal → Type 0) (fields : List Field) (body : List ℕ) (creds : List Credential) (clock : ℕ) (all : All (λ (c : Credential). P c.principal) creds) where
  with_has : (claim : Claim) (found : Option Credential) (p : Principal) → credential_of claim.claims.id creds ≡ found → signer_with claim fields body clock found ≡ Ok p → P p
  with_has claim None p is e = cc
  with_has claim (Some c) p is e =
      subst P (signed_where (is_far claim.second clock) (bytes_eq (signature_under c.secret claim fields body) claim.claims.signature) c.principal p e)
      (found_has (λ (c : Credential). P c.principal) claim.claims.id creds c all is)

  by_has : (claim : Result Claim AuthFault) (p : Principal) → signer_by fields body creds clock claim ≡ Ok p → P p
  by_has (Err why) p e = cc
  by_has (Ok claim) p e = with_has claim (credential_of claim.claims.id creds) p refl e

  in_has : (region : List ℕ) (p : Principal) → signer_in fields body creds region clock ≡ Ok p → P p
  unfolding signer_in
  in_has region p e = by_has (claim_in fields region) p e

-- whoever asks is of the account
pub caller_is_of : (account : List ℕ) (trust : Trust) (region : List ℕ) (m : Message) (clock : ℕ) (p : Principal) → IsOfAccount account trust → caller_of trust region m clock ≡ Ok p
    → account_of p ≡ account
caller_is_of account (Word caller) region m clock p is e = let same : caller ≡ p = cc in subst (λ (q : Principal). account_of q ≡ account) same is
caller_is_of account (Signed creds) region m clock p is e = in_has (λ (q : Principal). account_of q ≡ account) m.head.fields m.body creds clock is region p e

-- ---- an answer that is no want of memory is the one that is owed

pub fault_is : (value : Result Principal AuthFault) (why : AuthFault) → IsOrNoMemory value (Err why) → why ≢ NoMemory → value ≡ Err why
fault_is value NoAuth is other = is
fault_is value Incomplete is other = is
fault_is value UnknownKey is other = is
fault_is value Expired is other = is
fault_is value BadSignature is other = is
fault_is value NoMemory is other = absurd (other refl)
