-- What a configuration is, and its first fault.
use Rattle.std.specs.Prelude.{◌≡◌, ⊤, ℕ, ◌<◌, ◌≤◌, List, [], ◌∷◌, length, codes, Option, Result, Ok, Err}
use Rattle.serde_json.specs.Data.{Data, Members}
use Rattle.serde_json.specs.Find.{get}
use Rattle.policy_doc.specs.Names.{first_unknown}
use Rattle.policy_doc.specs.Paths.{member_path}
use Rattle.policy_doc.specs.Reading.{Reads, ReadsNothing}
use Rattle.policy_doc.specs.declared.policies.Policy.{Policy}
use Rattle.authority.specs.declared.identities.Identity.{Identity}
use Rattle.sigv4_check.specs.declared.credentials.Credential.{Credential}
use Rattle.kms_config.specs.declared.faults.ConfigFault.{ConfigFault}
use Rattle.kms_config.specs.declared.faults.ConfigFault.TheVariants.{At, NoMemory}
use Rattle.kms_config.specs.declared.config.Basics.{Basics}
use Rattle.kms_config.specs.declared.config.Config.{Config}
use Rattle.kms_config.specs.Answers.{◌>>=◌, at}
use Rattle.kms_config.specs.Members.{members_in, none_other}
use Rattle.kms_config.specs.Forms.{account_in, region_in, root_in, boot_in}
use Rattle.kms_config.specs.Credentials.{credentials_in}
use Rattle.kms_config.specs.Identities.{identities_in, ceiling_in}

abbrev pub config_names : List (List ℕ)
config_names = codes "account" ∷ codes "region" ∷ codes "root" ∷ codes "boot" ∷ codes "credentials" ∷ codes "policies" ∷ codes "ceiling" ∷ []

-- the pointer of a member of the configuration
abbrev pub pointer : List ℕ → List ℕ
pointer name = member_path [] name

-- its account, region, root secret and boot number, in the order in which their faults are looked for
unfoldable pub basics_by : Option (List ℕ) → Option (List ℕ) → Option (List ℕ) → Option ℕ → Result Basics (List ℕ)
basics_by account region root boot = do
  account ← at (pointer (codes "account")) account
  region ← at (pointer (codes "region")) region
  root ← at (pointer (codes "root")) root
  boot ← at (pointer (codes "boot")) boot
  Ok (record { account = account; region = region; root = root; boot = boot })

unfoldable pub basics_in : Data → Result Basics (List ℕ)
basics_in value =
    basics_by (account_in (get (codes "account") value)) (region_in (get (codes "region") value)) (root_in (get (codes "root") value)) (boot_in (get (codes "boot") value))

abbrev pub credentials_at : List ℕ → Data → Result (List Credential) (List ℕ)
credentials_at account value = credentials_in account (pointer (codes "credentials")) (get (codes "credentials") value)

abbrev pub identities_at : List ℕ → Data → Result (List Identity) (List ℕ)
identities_at account value = identities_in account (pointer (codes "policies")) (get (codes "policies") value)

abbrev pub ceiling_at : Data → Result (List Policy) (List ℕ)
ceiling_at value = ceiling_in (pointer (codes "ceiling")) (get (codes "ceiling") value)

-- with these basics, the credentials, the principals' policies, the account's ceiling, and then no other member
unfoldable pub lists_by : Basics → Result (List Credential) (List ℕ) → Result (List Identity) (List ℕ) → Result (List Policy) (List ℕ) → Option (List ℕ) → Result Config (List ℕ)
lists_by basics credentials identities ceiling unknown = do
  credentials ← credentials
  identities ← identities
  ceiling ← ceiling
  named ← none_other [] unknown
  Ok (record {
    facts = record { account = basics.account; region = basics.region; root = basics.root; boot = basics.boot; identities = identities; ceiling = ceiling };
    credentials = credentials;
  })

unfoldable pub lists_in : Data → Members → Basics → Result Config (List ℕ)
lists_in value members basics = lists_by basics (credentials_at basics.account value) (identities_at basics.account value) (ceiling_at value) (first_unknown config_names members)

-- what an object with these members configures
abbrev pub config_of : Data → Members → Result Config (List ℕ)
config_of value members = basics_in value >>= lists_in value members

-- what a value configures, or the pointer of its first fault; one that is no object is refused at `/`
abbrev pub config_in : Data → Result Config (List ℕ)
config_in value = members_in (codes "/") value >>= config_of value

-- ---- the bytes of a file

-- at most 4,194,304 bytes, which are JSON of a configuration
pub record IsConfigOf (bytes : List ℕ) (config : Config) : Type 0 where
  pub few : length bytes ≤ 4194304
  pub value : Data
  pub reads : Reads bytes value
  pub is : config_in value ≡ Ok config

-- why bytes are refused at a place: they are more, or no JSON, or their value has its first fault there
pub data IsRefusedAt (bytes : List ℕ) : List ℕ → Type 0 where
  too_long : 4194304 < length bytes → IsRefusedAt bytes (codes "/")
  no_json : length bytes ≤ 4194304 → ReadsNothing bytes → IsRefusedAt bytes (codes "/")
  at_fault : {path : List ℕ} (value : Data) → length bytes ≤ 4194304 → Reads bytes value → config_in value ≡ Err path → IsRefusedAt bytes path

abbrev pub IsFaultOf : List ℕ → ConfigFault → Type 0
IsFaultOf bytes (At path) = IsRefusedAt bytes path
IsFaultOf bytes NoMemory = ⊤
