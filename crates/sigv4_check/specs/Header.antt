-- Which texts of the header Authorization make which claims (IAM User Guide, "Create a signed AWS API request", step 5).
use Rattle.std.specs.Prelude.{◌≡◌, ◌≢◌, ◌↔◌, ℕ, List, [], ◌∷◌, ◌++◌, length, codes, Some}
use Rattle.std.specs.List.{All, AllPass, Contains}
use Rattle.sigv4_check.specs.Authorization.{Claims, claims_of, is_lower_hex_digit}

-- ---- the parts

-- Credential=ID/DATE/REGION/kms/aws4_request
abbrev pub credential_part : Claims → List ℕ
credential_part claims = codes "Credential=" ++ (claims.id ++ 47 ∷ (claims.date ++ 47 ∷ (claims.region ++ codes "/kms/aws4_request")))

-- SignedHeaders=NAMES
abbrev pub names_part : Claims → List ℕ
names_part claims = codes "SignedHeaders=" ++ claims.names

-- Signature=DIGITS
abbrev pub signature_part : Claims → List ℕ
signature_part claims = codes "Signature=" ++ claims.signature

abbrev pub HasNo : ℕ → List ℕ → Type 0
HasNo mark text = All (λ c. c ≢ mark) text

-- no part has a comma, no part of the credential has a slash, and the signature is 64 hexadecimal digits in lower case
pub record AreProper (claims : Claims) : Type 0 where
  pub id : HasNo 44 claims.id × HasNo 47 claims.id
  pub date : HasNo 44 claims.date × HasNo 47 claims.date
  pub region : HasNo 44 claims.region × HasNo 47 claims.region
  pub names : HasNo 44 claims.names
  pub signature : (length claims.signature ≡ 64) × AllPass is_lower_hex_digit claims.signature

-- ---- the text

abbrev pub AreSpaces : List ℕ → Type 0
AreSpaces text = All (λ c. c ≡ 32) text

-- the parts, with a comma between two of them, and any spaces before each
abbrev pub AreJoined : List (List ℕ) → List ℕ → Type 0
AreJoined [] text = ⊥
AreJoined (part ∷ []) text = (spaces : List ℕ) × AreSpaces spaces × (text ≡ spaces ++ part)
AreJoined (part ∷ next ∷ parts) text =
    (spaces : List ℕ) × (rest : List ℕ) × AreSpaces spaces × (text ≡ spaces ++ (part ++ 44 ∷ rest))
    × AreJoined (next ∷ parts) rest

-- the algorithm, a space, and three parts in any order, each of these one of them
pub record IsAuthorization (value : List ℕ) (claims : Claims) : Type 0 where
  pub text : List ℕ
  pub parts : List (List ℕ)
  pub algorithm : value ≡ codes "AWS4-HMAC-SHA256 " ++ text
  pub joined : AreJoined parts text
  pub three : length parts ≡ 3
  pub credential : Contains parts (credential_part claims)
  pub names : Contains parts (names_part claims)
  pub signature : Contains parts (signature_part claims)
  pub proper : AreProper claims

-- a header's value is read as these claims exactly where it makes them, and it makes no two
abbrev pub AuthorizationOfReads : Type 0
AuthorizationOfReads =
    (value : List ℕ) (claims : Claims) → ((claims_of value ≡ Some claims) ↔ IsAuthorization value claims)
    × ((other : Claims) → IsAuthorization value claims → IsAuthorization value other → claims ≡ other)
