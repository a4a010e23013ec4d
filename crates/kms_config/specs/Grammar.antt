-- The grammar of configurations: which JSON objects configure what, member by member.
use Rattle.std.specs.Prelude.{◌≡◌, ◌≢◌, ℕ, ◌+◌, ◌*◌, ◌≤◌, List, [], ◌∷◌, ◌++◌, length, map, codes, Option, Some, None, ⊤, ◌↔◌}
use Rattle.std.specs.Char.{is_ascii_alphanumeric}
use Rattle.std.specs.Cmp.Lexicographic.{slice_cmp}
use Rattle.std.specs.List.{All, AllPass, AllZip, Contains}
use Rattle.std.specs.List.Sorted.{IsStrictlySortedBy}
use Rattle.std.specs.Ordering.{nat_cmp}
use Rattle.hex.specs.Hex.{hex_digit_value}
use Rattle.serde_json.specs.Data.{unsigned, Data, number, string, array, object, Items, no_items, item, Members}
use Rattle.serde_json.specs.Find.{get}
use Rattle.kms_names.specs.Account.{IsAccountNumber}
use Rattle.kms_names.specs.Principal.{IsPrincipal, principal_text, account_of}
use Rattle.kms_names.specs.Region.{IsRegion}
use Rattle.kms_names.specs.declared.principals.Principal.{Principal}
use Rattle.kms_names.specs.declared.principals.Principal.TheVariants.{Root, User, Role}
use Rattle.policy_doc.specs.Grammar.{HasOnly, IsPolicyOf}
use Rattle.policy_doc.specs.declared.policies.Policy.{Policy}
use Rattle.policy_doc.specs.declared.policies.PolicyKind.TheVariants.{Identity as OfIdentity}
use Rattle.authority.specs.declared.identities.Identity.{Identity}
use Rattle.sigv4_check.specs.declared.credentials.Credential.{Credential}
use Rattle.kms_config.specs.declared.config.Config.{Config}
use Rattle.kms_config.specs.Config.{config_names}
use Rattle.kms_config.specs.Credentials.{credential_names}
use Rattle.kms_config.specs.Identities.{identity_names}

-- ---- values of one member; what is given is the member's value, or none where there is no such member

-- a text
abbrev pub IsText : Option Data → List ℕ → Type 0
IsText given text = given ≡ Some (string text)

-- 12 decimal digits
abbrev pub IsAccount : Option Data → List ℕ → Type 0
IsAccount given account = IsText given account × IsAccountNumber account

-- 1 to 32 lower-case letters, digits and `-`
abbrev pub IsRegionText : Option Data → List ℕ → Type 0
IsRegionText given region = IsText given region × IsRegion region

-- two hexadecimal digits of either case stand for a byte, the one of its high four bits first
abbrev pub IsHexByte : ℕ → ℕ → ℕ → Type 0
IsHexByte first second byte =
    (high : ℕ) × (low : ℕ) × (hex_digit_value first ≡ Some high) × (hex_digit_value second ≡ Some low)
    × (byte ≡ high * 16 + low)

-- the digits stand for these bytes
abbrev pub AreHexOf : List ℕ → List ℕ → Type 0
AreHexOf [] [] = ⊤
AreHexOf [] (byte ∷ bytes) = ⊥
AreHexOf (digit ∷ []) bytes = ⊥
AreHexOf (first ∷ second ∷ digits) [] = ⊥
AreHexOf (first ∷ second ∷ digits) (byte ∷ bytes) = IsHexByte first second byte × AreHexOf digits bytes

-- 64 hexadecimal digits of either case, which stand for 32 bytes
abbrev pub IsRootSecret : Option Data → List ℕ → Type 0
IsRootSecret given root = (digits : List ℕ) × IsText given digits × (length digits ≡ 64) × AreHexOf digits root

-- a whole number from 1 to 4294967295
abbrev pub IsBoot : Option Data → ℕ → Type 0
IsBoot given boot = (given ≡ Some (number (unsigned boot))) × (1 ≤ boot) × (boot ≤ 4294967295)

abbrev pub HasLength : List ℕ → Type 0
HasLength text = (1 ≤ length text) × (length text ≤ 128)

-- a visible ASCII character
abbrev pub IsVisible : ℕ → Type 0
IsVisible c = (33 ≤ c) × (c ≤ 126)

-- 1 to 128 visible ASCII characters
abbrev pub IsSecret : Option Data → List ℕ → Type 0
IsSecret given secret = IsText given secret × HasLength secret × All IsVisible secret

-- the ARN of a principal of the account
abbrev pub IsPrincipalOf : List ℕ → Option Data → Principal → Type 0
IsPrincipalOf account given principal =
    IsText given (principal_text principal) × IsPrincipal principal × (account_of principal ≡ account)

-- ---- members that no two items of a list have equal

-- no item before has this text as its member of this name
abbrev pub IsNew : List ℕ → List Data → List ℕ → Type 0
IsNew name before text = All (λ d. get name d ≢ Some (string text)) before

-- 1 to 128 letters and digits, that no item before has
abbrev pub IsKeyId : List Data → Option Data → List ℕ → Type 0
IsKeyId before given id = IsText given id × HasLength id × AllPass is_ascii_alphanumeric id × IsNew (codes "accessKeyId") before id

abbrev pub IsNotRoot : Principal → Type 0
IsNotRoot (Root account) = ⊥
IsNotRoot (User account name) = ⊤
IsNotRoot (Role account name) = ⊤

-- a user or a role of the account, that no item before has
abbrev pub IsHolder : List ℕ → List Data → Option Data → Principal → Type 0
IsHolder account before given principal =
    IsPrincipalOf account given principal × IsNotRoot principal × IsNew (codes "principal") before (principal_text principal)

-- ---- objects and lists

-- an object whose members all have one of these names
abbrev pub IsObject : List (List ℕ) → Data → Type 0
IsObject names d = (ms : Members) × (d ≡ object ms) × HasOnly names ms

-- the items of an array
abbrev pub values_of : Items → List Data
values_of no_items = []
values_of (item d ds) = d ∷ values_of ds

-- a list of so many values
abbrev pub AreItems : ℕ → ℕ → Option Data → List Data → Type 0
AreItems least most given values =
    (items : Items) × (given ≡ Some (array items)) × (values ≡ values_of items) × (least ≤ length values) × (length values ≤ most)

-- each value, with the values before it in the list, stands for the item at its place
abbrev pub AreEach : {A : Type 0} → (List Data → Data → A → Type 0) → List Data → List Data → List A → Type 0
AreEach Is before [] [] = ⊤
AreEach Is before [] (x ∷ xs) = ⊥
AreEach Is before (d ∷ values) [] = ⊥
AreEach Is before (d ∷ values) (x ∷ xs) = Is before d x × AreEach Is (before ++ d ∷ []) values xs

-- ---- policies

-- an identity policy (the grammar of `policy_doc`)
abbrev pub IsDocument : Data → Policy → Type 0
IsDocument d policy = (policy.kind ≡ OfIdentity) × IsPolicyOf OfIdentity d policy.statements

-- a list of so many identity policies
abbrev pub AreDocuments : ℕ → ℕ → Option Data → List Policy → Type 0
AreDocuments least most given policies =
    (values : List Data) × AreItems least most given values × AllZip IsDocument values policies

-- left out, which is none, or a list of 1 to 10
abbrev pub IsCeiling : Option Data → List Policy → Type 0
IsCeiling None policies = policies ≡ []
IsCeiling (Some d) policies = AreDocuments 1 10 (Some d) policies

-- an item of `policies`: a principal with at most 10 documents
pub record IsIdentity (account : List ℕ) (before : List Data) (d : Data) (identity : Identity) : Type 0 where
  pub names : IsObject identity_names d
  pub principal : IsHolder account before (get (codes "principal") d) identity.principal
  pub documents : AreDocuments 0 10 (get (codes "documents") d) identity.policies

-- at most 1,000 of them
abbrev pub AreIdentities : List ℕ → Option Data → List Identity → Type 0
AreIdentities account given identities =
    (values : List Data) × AreItems 0 1000 given values × AreEach (IsIdentity account) [] values identities

-- ---- credentials

-- an item of `credentials`
pub record IsCredential (account : List ℕ) (before : List Data) (d : Data) (credential : Credential) : Type 0 where
  pub names : IsObject credential_names d
  pub id : IsKeyId before (get (codes "accessKeyId") d) credential.id
  pub secret : IsSecret (get (codes "secret") d) credential.secret
  pub principal : IsPrincipalOf account (get (codes "principal") d) credential.principal

-- in byte order of their ids, no two of which are equal
abbrev pub AreInOrder : List Credential → Type 0
AreInOrder credentials = IsStrictlySortedBy (slice_cmp nat_cmp) (map (λ (credential : Credential). credential.id) credentials)

-- at most 1,000 of them: those that are listed, put in order
pub record AreCredentials (account : List ℕ) (given : Option Data) (credentials : List Credential) : Type 0 where
  pub values : List Data
  pub items : AreItems 0 1000 given values
  pub listed : List Credential
  pub each : AreEach (IsCredential account) [] values listed
  pub same : (credential : Credential) → Contains listed credential ↔ Contains credentials credential
  pub order : AreInOrder credentials

-- ---- configurations

-- the value is a configuration of this
pub record Configures (value : Data) (config : Config) : Type 0 where
  pub names : IsObject config_names value
  pub account : IsAccount (get (codes "account") value) config.facts.account
  pub region : IsRegionText (get (codes "region") value) config.facts.region
  pub root : IsRootSecret (get (codes "root") value) config.facts.root
  pub boot : IsBoot (get (codes "boot") value) config.facts.boot
  pub credentials : AreCredentials config.facts.account (get (codes "credentials") value) config.credentials
  pub policies : AreIdentities config.facts.account (get (codes "policies") value) config.facts.identities
  pub ceiling : IsCeiling (get (codes "ceiling") value) config.facts.ceiling
