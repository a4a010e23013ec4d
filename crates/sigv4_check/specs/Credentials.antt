-- The credentials of callers.
use Rattle.std.specs.Prelude.{◌≡◌, ◌<◌, ℕ, Bool, true, false, not, ◌&&◌, ◌||◌, length, slice_index_or, if◌then◌else◌, List, [], ◌∷◌, Option, Some, None}
use Rattle.std.specs.Str.{bytes_eq}
use Rattle.sigv4_check.specs.SignedNames.{is_before}
use Rattle.sigv4_check.specs.declared.credentials.Credential.{Credential}

-- one of them has this id
abbrev pub has_id : List ℕ → List Credential → Bool
has_id id [] = false
has_id id (credential ∷ creds) = bytes_eq credential.id id || has_id id creds

-- no two have the same id
abbrev pub are_distinct : List Credential → Bool
are_distinct [] = true
are_distinct (credential ∷ creds) = not (has_id credential.id creds) && are_distinct creds

abbrev pub AreDistinct : List Credential → Type 0
AreDistinct creds = are_distinct creds ≡ true

-- its id stands behind this one
abbrev pub stands_behind : List ℕ → Credential → Bool
stands_behind id credential = is_before id credential.id

-- the list with one more, before the first whose id stands behind its own in the order of bytes
abbrev pub placed : Credential → List Credential → List Credential
placed credential [] = credential ∷ []
placed credential (other ∷ creds) = if is_before credential.id other.id then credential ∷ other ∷ creds else other ∷ placed credential creds

-- the credential of an id
abbrev pub credential_of : List ℕ → List Credential → Option Credential
credential_of id [] = None
credential_of id (credential ∷ creds) = if bytes_eq credential.id id then Some credential else credential_of id creds

-- it stands in the list and has this id
pub record IsAmong (creds : List Credential) (id : List ℕ) (credential : Credential) : Type 0 where
  pub place : ℕ
  pub within : place < length creds
  pub is : credential ≡ slice_index_or creds place credential
  pub named : bytes_eq credential.id id ≡ true
