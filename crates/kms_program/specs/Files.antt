-- What comes of a configuration's file.
use Rattle.std.specs.Prelude.{◌≡◌, ◌<◌, ⊤, ℕ, List, length, IfSome}
use Rattle.kms_io.specs.Shelf.{Shelf}
use Rattle.kms_io.specs.Wire.{RoseBy}
use Rattle.kms_io.specs.Files.{Asks, MayAsk}
use Rattle.kms_names.specs.declared.principals.Principal.{Principal}
use Rattle.authority.specs.Setting.{callers_policies}
use Rattle.authority.specs.Allowed.{AreIdentityPolicies}
use Rattle.account_steps.specs.declared.facts.RealmFacts.{RealmFacts}
use Rattle.session_front.specs.Callers.{IsOfAccount}
use Rattle.session_front.specs.declared.trust.Trust.{Trust}
use Rattle.kms_config.specs.Config.{IsConfigOf, IsRefusedAt}
use Rattle.kms_config.specs.declared.config.Config.{Config}
use Rattle.kms_program.specs.declared.files.Loaded.{Loaded}
use Rattle.kms_program.specs.declared.files.Loaded.TheVariants as loaded

-- where the file's content is told, it is this
abbrev pub Holds : Shelf → List ℕ → List ℕ → Type 0
Holds shelf name bytes = IfSome (shelf.content name) (λ all. bytes ≡ all)

-- the file is this configuration
abbrev pub IsFileOf : Shelf → List ℕ → Config → Type 0
IsFileOf shelf name config = (bytes : List ℕ) × Holds shelf name bytes × IsConfigOf bytes config

-- whoever calls has policies of the kind Identity alone, and the account's ceiling is of such: what the laws of authority presume
pub record HasIdentityPolicies (facts : RealmFacts) : Type 0 where
  pub own : (caller : Principal) → AreIdentityPolicies (callers_policies facts.identities caller)
  pub ceiling : AreIdentityPolicies facts.ceiling

-- the same, and whoever may call is of the account
pub record KnowsCallers (facts : RealmFacts) (trust : Trust) : Type 0 where
  pub policies : HasIdentityPolicies facts
  pub callers : IsOfAccount facts.account trust

-- the first fault of the file's content stands at this path
abbrev pub IsFileRefused : Shelf → List ℕ → List ℕ → Type 0
IsFileRefused shelf name path = (bytes : List ℕ) × Holds shelf name bytes × IsRefusedAt bytes path

-- the file is too long, where its content is told
abbrev pub IsFileTooLong : Shelf → List ℕ → Type 0
IsFileTooLong shelf name = IfSome (shelf.content name) (λ all. 4194304 < length all)

-- what bytes come to
abbrev pub IsLoaded : List ℕ → Loaded → Type 0
IsLoaded bytes (loaded.Config config) = IsConfigOf bytes config
IsLoaded bytes (loaded.Refused path) = IsRefusedAt bytes path
IsLoaded bytes loaded.TooLong = ⊥
IsLoaded bytes loaded.Failed = ⊥
IsLoaded bytes loaded.NoMemory = ⊤

-- what holds of a configuration, if it is one
abbrev pub OnConfig : Loaded → (Config → Type 0) → Type 0
OnConfig (loaded.Config config) P = P config
OnConfig (loaded.Refused path) P = ⊤
OnConfig loaded.TooLong P = ⊤
OnConfig loaded.Failed P = ⊤
OnConfig loaded.NoMemory P = ⊤

-- the file was asked for once
abbrev pub Loads : Shelf → List ℕ → Loaded → Shelf → Type 0
Loads old name (loaded.Config config) new = Asks old name new × IsFileOf old name config
Loads old name (loaded.Refused path) new = Asks old name new × IsFileRefused old name path
Loads old name loaded.TooLong new = Asks old name new × IsFileTooLong old name
Loads old name loaded.Failed new = Asks old name new × RoseBy 1 old.faults new.faults
Loads old name loaded.NoMemory new = MayAsk old name new
