-- What the values of `run` stand for, and which of them is refused.
use Rattle.std.specs.Prelude.{◌≡◌, ℕ, List, [], length, Option, Some, None, IsSome, Ok}
use Rattle.std.specs.List.{AllPass}
use Rattle.hex.specs.Hex.{decode_of, is_hex_digit}
use Rattle.kms_names.specs.Account.{IsAccountNumber}
use Rattle.kms_names.specs.Region.{IsRegion}
use Rattle.kms_names.specs.Principal.{IsPrincipal, principal_text, account_of}
use Rattle.kms_names.specs.declared.principals.Principal.{Principal}
use Rattle.kms_config.specs.declared.config.Config.{Config}
use Rattle.session_front.specs.declared.trust.Trust.{Trust}
use Rattle.session_front.specs.declared.trust.Trust.TheVariants.{Word, Signed}
use Rattle.kms_program.specs.declared.settings.Settings.{Settings}
use Rattle.kms_program.specs.declared.settings.RunOption.{RunOption}
use Rattle.kms_program.specs.declared.settings.RunOption.TheVariants.{Account, Region, Root, Boot, As}
use Rattle.kms_program.specs.declared.settings.SettingFault.{SettingFault}
use Rattle.kms_program.specs.declared.settings.SettingFault.TheVariants as setting
use Rattle.kms_words.specs.Numbers.{number_or}
use Rattle.kms_words.specs.Words.{RunValues}

-- 64 hex digits of either case
abbrev pub IsRootSecret : List ℕ → Type 0
IsRootSecret text = (length text ≡ 64) × AllPass is_hex_digit text

-- a number of 1 to 20 decimal digits, from 1 to 4294967295, where it is given, and else 1
abbrev pub boot_of : Option (List ℕ) → Option ℕ
boot_of text = number_or 1 1 4294967295 text

-- the text is the ARN of this principal, who is of the account
pub record IsPrincipalOf (account text : List ℕ) (p : Principal) : Type 0 where
  pub form : IsPrincipal p
  pub of_account : account_of p ≡ account
  pub arn : text ≡ principal_text p

-- who is named, or that nobody is
abbrev pub Names : List ℕ → List ℕ → Option Principal → Type 0
Names account text None = (p : Principal) → ¬ (IsPrincipalOf account text p)
Names account text (Some p) = IsPrincipalOf account text p

-- whoever sends a message is the principal of this ARN, who is of the account
pub record TrustsName (account text : List ℕ) (trust : Trust) : Type 0 where
  pub caller : Principal
  pub is : trust ≡ Word caller
  pub named : IsPrincipalOf account text caller

-- each value has its form, and stands for what it says; no caller has policies of its own, and the account has no ceiling
pub record IsSettings (values : RunValues) (settings : Settings) : Type 0 where
  pub account_form : IsAccountNumber values.account
  pub region_form : IsRegion values.region
  pub root_form : IsRootSecret values.root
  pub account : settings.facts.account ≡ values.account
  pub region : settings.facts.region ≡ values.region
  pub root : decode_of values.root ≡ Ok settings.facts.root
  pub boot : boot_of values.boot ≡ Some settings.facts.boot
  pub identities : settings.facts.identities ≡ []
  pub ceiling : settings.facts.ceiling ≡ []
  pub caller : TrustsName values.account values.caller settings.trust

-- the value of this option has not its form, and those before it have
abbrev pub IsRefusedAt : RunValues → RunOption → Type 0
IsRefusedAt values Account = ¬ (IsAccountNumber values.account)
IsRefusedAt values Region = IsAccountNumber values.account × ¬ (IsRegion values.region)
IsRefusedAt values Root = IsAccountNumber values.account × IsRegion values.region × ¬ (IsRootSecret values.root)
IsRefusedAt values Boot = IsAccountNumber values.account × IsRegion values.region × IsRootSecret values.root × (boot_of values.boot ≡ None)
IsRefusedAt values As =
    IsAccountNumber values.account × IsRegion values.region × IsRootSecret values.root × IsSome (boot_of values.boot) × ((p : Principal) → ¬ (IsPrincipalOf values.account values.caller p))

abbrev pub UnlessMemory : RunValues → SettingFault → Type 0
UnlessMemory values (setting.At option) = IsRefusedAt values option
UnlessMemory values setting.NoMemory = Unit {0}

-- ---- with a file

-- whoever signs with one of the file's credentials, or the one whose ARN `--as` gives
abbrev pub TrustsAsTold : Config → Option (List ℕ) → Trust → Type 0
TrustsAsTold config None trust = trust ≡ Signed config.credentials
TrustsAsTold config (Some caller) trust = TrustsName config.facts.account caller trust

-- what the file says is served
pub record IsConfigured (config : Config) (caller : Option (List ℕ)) (settings : Settings) : Type 0 where
  pub facts : settings.facts ≡ config.facts
  pub trust : TrustsAsTold config caller settings.trust

-- a caller is given, who is nobody of the account
abbrev pub IsNobody : Config → Option (List ℕ) → Type 0
IsNobody config None = ⊥
IsNobody config (Some caller) = (p : Principal) → ¬ (IsPrincipalOf config.facts.account caller p)
