-- What the bytes of a file of kept changes say.
use Rattle.std.specs.Prelude.{◌≡◌, ℕ, List, []}
use Rattle.account_steps.specs.declared.facts.RealmFacts.{RealmFacts}
use Rattle.kept_log.specs.Log.{recovered}
use Rattle.kept_journal.specs.Lost.{IsFileFault}
use Rattle.kept_journal.specs.declared.faults.KeptFault.TheVariants.{At}

-- nothing was kept yet
abbrev pub HasNoLine : List ℕ → Type 0
HasNoLine bytes = recovered bytes ≡ []

-- the first line at fault, of a journal of these facts under some boot number
pub record HasFault (facts : RealmFacts) (bytes : List ℕ) (line : ℕ) : Type 0 where
  pub boot : ℕ
  pub is : IsFileFault (record facts { boot = boot }) bytes (At line)
