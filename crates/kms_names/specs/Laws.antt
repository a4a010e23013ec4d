-- Laws of the written forms.
use Rattle.std.specs.Prelude.{◌≡◌, ◌≢◌, ℕ, List, Some, Result, MatchOption, MatchResult}
use Rattle.std.specs.Str.{str_to_ascii_lowercase}
use Rattle.hex.specs.Hex.{encode_lower}
use Rattle.uuid.specs.Text.{parsed_hyphenated, hyphenated_text, lower}
use Rattle.kms_names.specs.Account.{IsAccountNumber}
use Rattle.kms_names.specs.Region.{IsRegion}
use Rattle.kms_names.specs.Alias.{IsAliasName}
use Rattle.kms_names.specs.Identifier.{IsKeyId, IsGrantId}
use Rattle.kms_names.specs.Principal.{IsPrincipal, principal_text}
use Rattle.kms_names.specs.Reference.{RefersTo, IsReading, key_arn_text, alias_arn_text}
use Rattle.kms_names.specs.Reading.{principal_of, alias_of, key_ref_of}
use Rattle.kms_names.specs.declared.faults.NameFault.{NameFault}
use Rattle.kms_names.specs.declared.faults.NameFault.TheVariants.{BadAlias}
use Rattle.kms_names.specs.declared.principals.Principal.{Principal}
use Rattle.kms_names.specs.declared.references.KeyRef.{KeyRef}
use Rattle.kms_names.specs.declared.references.KeyRef.TheVariants.{Key, Alias}

-- what is printed of a key's id reads as that id
abbrev pub PrintedKeyReadsBack : Type 0
PrintedKeyReadsBack = (key : List ℕ) → IsKeyId key → parsed_hyphenated (hyphenated_text lower key) ≡ Some key

-- what was read as a key's id is an id, and is printed as it was written, in lower case
abbrev pub ReadKeyPrintsBack : Type 0
ReadKeyPrintsBack = (text key : List ℕ) → parsed_hyphenated text ≡ Some key → IsKeyId key × (hyphenated_text lower key ≡ str_to_ascii_lowercase text)

-- two grant ids have two texts
abbrev pub GrantTextsDiffer : Type 0
GrantTextsDiffer = (a b : List ℕ) → IsGrantId a → IsGrantId b → encode_lower a ≡ encode_lower b → a ≡ b

-- two principals have two texts
abbrev pub PrincipalTextsDiffer : Type 0
PrincipalTextsDiffer = (p q : Principal) → IsPrincipal p → IsPrincipal q → principal_text p ≡ principal_text q → p ≡ q

-- a text refers to one thing
abbrev pub RefersToOne : Type 0
RefersToOne = (text account region : List ℕ) (x y : KeyRef) → RefersTo text account region x → RefersTo text account region y → x ≡ y

-- the printed id and ARN of a key refer to it, and the name and ARN of an alias to it
abbrev pub PrintedKeyRefers : Type 0
PrintedKeyRefers =
    (account region key : List ℕ) → IsAccountNumber account → IsRegion region → IsKeyId key
    → RefersTo (hyphenated_text lower key) account region (Key key) × RefersTo (key_arn_text account region key) account region (Key key)

abbrev pub PrintedAliasRefers : Type 0
PrintedAliasRefers =
    (account region name : List ℕ) → IsAccountNumber account → IsRegion region → IsAliasName name
    → RefersTo name account region (Alias name) × RefersTo (alias_arn_text account region name) account region (Alias name)

-- `principal_of` is the principal whose text it is, where it is one's
abbrev pub PrincipalOfReads : Type 0
PrincipalOfReads =
    (text : List ℕ) → MatchOption (principal_of text) ((p : Principal) → IsPrincipal p → text ≢ principal_text p) (λ p. IsPrincipal p × (text ≡ principal_text p))

-- `alias_of` is the alias name that a text is, where it is one
abbrev pub AliasOfReads : Type 0
AliasOfReads = (text : List ℕ) → MatchResult (alias_of text) (λ name. IsAliasName text × (name ≡ text)) (λ fault. ¬ (IsAliasName text) × (fault ≡ BadAlias))

-- `key_ref_of` is what may be answered of a text, and nothing else is
abbrev pub KeyRefOfReads : Type 0
KeyRefOfReads =
    (text account region : List ℕ) → IsReading text account region (key_ref_of text account region)
    × ((answer : Result KeyRef NameFault) → IsReading text account region answer → answer ≡ key_ref_of text account region)
