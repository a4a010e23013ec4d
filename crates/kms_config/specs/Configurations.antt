-- Which bytes are a configuration, and which have a fault, by the grammar and the order of places.
use Rattle.std.specs.Prelude.{◌≡◌, ◌⊎◌, ⊤, ℕ, ◌<◌, ◌≤◌, List, length, codes, Result, MatchResult}
use Rattle.serde_json.specs.Data.{Data}
use Rattle.policy_doc.specs.Reading.{Reads, ReadsNothing}
use Rattle.kms_config.specs.declared.config.Config.{Config}
use Rattle.kms_config.specs.declared.faults.ConfigFault.{ConfigFault}
use Rattle.kms_config.specs.declared.faults.ConfigFault.TheVariants.{At, NoMemory}
use Rattle.kms_config.specs.Grammar.{Configures}
use Rattle.kms_config.specs.Places.{IsFirstFault}

-- at most 4,194,304 bytes, which are JSON in UTF-8 of a value that configures this
pub record IsConfiguration (bytes : List ℕ) (config : Config) : Type 0 where
  pub few : length bytes ≤ 4194304
  pub value : Data
  pub reads : Reads bytes value
  pub configures : Configures value config

-- the bytes are more, or no JSON, which is a fault at `/`; or they are JSON of a value whose first fault is at the path
pub data IsFaultyAt (bytes : List ℕ) : List ℕ → Type 0 where
  too_many : 4194304 < length bytes → IsFaultyAt bytes (codes "/")
  no_value : length bytes ≤ 4194304 → ReadsNothing bytes → IsFaultyAt bytes (codes "/")
  first_fault : {path : List ℕ} (value : Data) → length bytes ≤ 4194304 → Reads bytes value → IsFirstFault value path
      → IsFaultyAt bytes path

-- the same of a fault that is answered
abbrev pub IsFaultyBy : List ℕ → ConfigFault → Type 0
IsFaultyBy bytes (At path) = IsFaultyAt bytes path
IsFaultyBy bytes NoMemory = ⊤

-- ---- what is answered of bytes, but for want of memory

-- where they are a configuration, what it configures
abbrev pub IsTaken : List ℕ → Result Config ConfigFault → Type 0
IsTaken bytes answer =
    (config : Config) → IsConfiguration bytes config → MatchResult answer (λ taken. taken ≡ config) (λ fault. fault ≡ NoMemory)

-- where they have a fault, the first one
abbrev pub IsRefused : List ℕ → Result Config ConfigFault → Type 0
IsRefused bytes answer =
    (path : List ℕ) → IsFaultyAt bytes path → MatchResult answer (λ _. ⊥) (λ fault. (fault ≡ At path) ⊎ (fault ≡ NoMemory))
