-- The journal that a session, or a server, begins with.
use Rattle.std.specs.Prelude.{◌≡◌, ◌≢◌, ◌<◌, ⊤, ◌++◌, ℕ, List, [], All, length, codes, decimal, Option, None, Some, IfSome}
use Rattle.kms_io.specs.Shelf.{Shelf}
use Rattle.kms_io.specs.Wire.{RoseBy}
use Rattle.kms_io.specs.Files.{Asks, MayAsk}
use Rattle.account_steps.specs.declared.facts.RealmFacts.{RealmFacts}
use Rattle.account_core.specs.Account.{Account}
use Rattle.account_core.specs.Fitting.{IsHeld}
use Rattle.journal_file.specs.Faults.{IsJournalOf, IsFault, IsReadBack}
use Rattle.journal_file.specs.declared.faults.JournalFault.{JournalFault}
use Rattle.journal_file.specs.declared.faults.JournalFault.TheVariants.{At, OldBoot, NoMemory}
use Rattle.kms_program.specs.declared.accounts.Read.{Read}
use Rattle.kms_program.specs.declared.accounts.Read.TheVariants as read
use Rattle.kms_program.specs.Files.{Holds}

-- the file is the journal of this account, whose facts are these; of each of its entries the line is read as that entry, and each is one that a
-- request or housekeeping made, or that fitted those before it
pub record IsJournalFile (shelf : Shelf) (name : List ℕ) (facts : RealmFacts) (account : Account) : Type 0 where
  pub bytes : List ℕ
  pub holds : Holds shelf name bytes
  pub facts_are : account.facts ≡ facts
  pub is : IsJournalOf facts bytes account.entries
  pub read : All IsReadBack account.entries
  pub held : IsHeld account.facts account.entries

-- an account without entries, or where a journal is named, that of the journal
abbrev pub IsBegun : Shelf → Option (List ℕ) → RealmFacts → Account → Type 0
IsBegun shelf None facts account = account ≡ record { facts = facts; entries = [] }
IsBegun shelf (Some name) facts account = IsJournalFile shelf name facts account

-- the path at which a fault is told: the line of the journal, or the boot number
abbrev pub path_at : JournalFault → List ℕ
path_at (At line) = codes "/load/" ++ decimal line
path_at OldBoot = codes "/boot"
path_at NoMemory = []

-- the file holds bytes with this fault
pub record HasFault (shelf : Shelf) (name : List ℕ) (facts : RealmFacts) (fault : JournalFault) : Type 0 where
  pub bytes : List ℕ
  pub holds : Holds shelf name bytes
  pub is : IsFault facts bytes fault

-- the file is no journal that these facts take: it is too long, where its content is told, or its first fault is told at this path
pub data IsJournalRefused (shelf : Shelf) (name : List ℕ) (facts : RealmFacts) : List ℕ → Type 0 where
  too_long : IfSome (shelf.content name) (λ all. 2147483648 < length all) → IsJournalRefused shelf name facts (codes "/load")
  is_faulty : (fault : JournalFault) → fault ≢ NoMemory → HasFault shelf name facts fault → IsJournalRefused shelf name facts (path_at fault)

-- the file of a journal was asked for once, if one is named
abbrev pub AsksJournal : Option (List ℕ) → Shelf → Shelf → Type 0
AsksJournal None old new = new ≡ old
AsksJournal (Some name) old new = Asks old name new

-- or may have been
abbrev pub MayAskJournal : Option (List ℕ) → Shelf → Shelf → Type 0
MayAskJournal None old new = new ≡ old
MayAskJournal (Some name) old new = MayAsk old name new

-- what bytes come to
abbrev pub IsReadOf : List ℕ → RealmFacts → Read → Type 0
IsReadOf bytes facts (read.Account account) = (account.facts ≡ facts) × IsJournalOf facts bytes account.entries × All IsReadBack account.entries × IsHeld account.facts account.entries
IsReadOf bytes facts (read.At line) = IsFault facts bytes (At line)
IsReadOf bytes facts read.OldBoot = IsFault facts bytes OldBoot
IsReadOf bytes facts read.TooLong = ⊥
IsReadOf bytes facts read.Failed = ⊥
IsReadOf bytes facts read.NoMemory = ⊤

-- what came of the file of a journal, which was asked for once
abbrev pub IsRead : Shelf → List ℕ → RealmFacts → Read → Shelf → Type 0
IsRead old name facts (read.Account account) new = Asks old name new × IsJournalFile old name facts account
IsRead old name facts (read.At line) new = Asks old name new × HasFault old name facts (At line)
IsRead old name facts read.OldBoot new = Asks old name new × HasFault old name facts OldBoot
IsRead old name facts read.TooLong new = Asks old name new × IfSome (old.content name) (λ all. 2147483648 < length all)
IsRead old name facts read.Failed new = Asks old name new × RoseBy 1 old.faults new.faults
IsRead old name facts read.NoMemory new = MayAsk old name new
