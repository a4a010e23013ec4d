-- Texts that refer to a key.
use Rattle.std.specs.Prelude.{◌≡◌, ◌⊎◌, ℕ, List, ◌∷◌, ◌++◌, Some, None, codes, Result, Ok, Err}
use Rattle.uuid.specs.Text.{parsed_hyphenated, hyphenated_text, lower}
use Rattle.kms_names.specs.Account.{IsAccountNumber}
use Rattle.kms_names.specs.Region.{IsRegion}
use Rattle.kms_names.specs.Alias.{IsAliasName}
use Rattle.kms_names.specs.declared.faults.NameFault.{NameFault}
use Rattle.kms_names.specs.declared.faults.NameFault.TheVariants.{BadArn, BadAlias, BadId, NoMemory}
use Rattle.kms_names.specs.declared.references.KeyRef.{KeyRef}
use Rattle.kms_names.specs.declared.references.KeyRef.TheVariants.{Key, Alias, Elsewhere}

-- the text begins with this front
abbrev pub BeginsWith : List ℕ → List ℕ → Type 0
BeginsWith text front = (rest : List ℕ) × (text ≡ front ++ rest)

-- an ARN of the key service, with its region, account and resource
abbrev pub IsKmsArn : List ℕ → List ℕ → List ℕ → List ℕ → Type 0
IsKmsArn text region account resource =
    IsRegion region × IsAccountNumber account × (text ≡ codes "arn:aws:kms:" ++ (region ++ 58 ∷ (account ++ 58 ∷ resource)))

-- the resource of a key's ARN
abbrev pub IsKeyResource : List ℕ → List ℕ → Type 0
IsKeyResource resource key = (id : List ℕ) × (resource ≡ codes "key/" ++ id) × (parsed_hyphenated id ≡ Some key)

-- the resource of an ARN of a key or an alias
abbrev pub IsResource : List ℕ → Type 0
IsResource resource = ((key : List ℕ) × IsKeyResource resource key) ⊎ IsAliasName resource

-- an ARN of a key or an alias
abbrev pub IsArn : List ℕ → Type 0
IsArn text = (region : List ℕ) × (account : List ℕ) × (resource : List ℕ) × IsKmsArn text region account resource × IsResource resource

-- what a text refers to in an account and region: a hyphenated id or the ARN of a key here to the key, an alias
-- name or its ARN here to the alias, and an ARN of another region or account to what lies elsewhere
abbrev pub RefersTo : List ℕ → List ℕ → List ℕ → KeyRef → Type 0
RefersTo text account region (Key key) =
    (parsed_hyphenated text ≡ Some key) ⊎ ((resource : List ℕ) × IsKmsArn text region account resource × IsKeyResource resource key)
RefersTo text account region (Alias name) = IsAliasName name × ((text ≡ name) ⊎ IsKmsArn text region account name)
RefersTo text account region Elsewhere =
    (other_region : List ℕ) × (other_account : List ℕ) × (resource : List ℕ) × IsKmsArn text other_region other_account resource × IsResource resource
    × ¬ ((other_region ≡ region) × (other_account ≡ account))

-- what may be answered of a text in an account and region, with ample memory: what it refers to; where it begins
-- `arn:` that it is no ARN of a key or an alias, where it begins `alias/` that it is no alias name, and of any
-- other that it is no id
abbrev pub IsReading : List ℕ → List ℕ → List ℕ → Result KeyRef NameFault → Type 0
IsReading text account region (Ok x) = RefersTo text account region x
IsReading text account region (Err BadArn) = BeginsWith text (codes "arn:") × ¬ (IsArn text)
IsReading text account region (Err BadAlias) = BeginsWith text (codes "alias/") × ¬ (IsAliasName text)
IsReading text account region (Err BadId) = (parsed_hyphenated text ≡ None) × ¬ (BeginsWith text (codes "arn:")) × ¬ (BeginsWith text (codes "alias/"))
IsReading text account region (Err NoMemory) = ⊥

-- the ARN of a key
abbrev pub key_arn_text : List ℕ → List ℕ → List ℕ → List ℕ
key_arn_text account region key =
    codes "arn:aws:kms:" ++ (region ++ (codes ":" ++ (account ++ (codes ":key/" ++ hyphenated_text lower key))))

-- the ARN of an alias
abbrev pub alias_arn_text : List ℕ → List ℕ → List ℕ → List ℕ
alias_arn_text account region name = codes "arn:aws:kms:" ++ (region ++ (codes ":" ++ (account ++ (codes ":" ++ name))))
