-- Laws of the entries of an account, and of the text that they are written as.
use Rattle.std.specs.Prelude.{◌≡◌, ◌≢◌, ◌⊎◌, ℕ, ◌<◌, ◌^◌, List, [], ◌∷◌, ◌++◌, All, length, Some, Ok}
use Rattle.kms_names.specs.Account.{IsAccountNumber}
use Rattle.kms_names.specs.Region.{IsRegion}
use Rattle.account_steps.specs.declared.facts.RealmFacts.{RealmFacts}
use Rattle.account_rows.specs.declared.entries.Entry.{Entry}
use Rattle.account_rows.specs.History.{replay}
use Rattle.key_states.specs.declared.rows.KeyRow.{KeyRow}
use Rattle.account_tags.specs.Pages.{behind_marker, marker_of, tag_of}
use Rattle.account_core.specs.Decide.{IsNext, IsLawful}
use Rattle.account_core.specs.Fitting.{Fits, IsSound, IsHeld}
use Rattle.journal_lines.specs.Forms.{IsEntry}
use Rattle.journal_lines.specs.LineReading.{entry_of}
use Rattle.journal_file.specs.Faults.{IsJournalOf, IsFault, IsReadBack}
use Rattle.journal_file.specs.declared.faults.JournalFault.{JournalFault}
use Rattle.journal_file.specs.declared.faults.JournalFault.TheVariants.{NoMemory}
use Rattle.account_laws.specs.Laws.{IsOpened}
use Rattle.journal_file.specs.Journal.{journal_text}

-- ---- entries that are appended fit

-- an entry that a proper request appends to a history that an account holds, or that housekeeping appends, fits it
abbrev pub NextEntriesFit : Type 0
NextEntriesFit = (facts : RealmFacts) (history : List Entry) (entry : Entry) → IsAccountNumber facts.account → IsHeld facts history → IsNext facts history entry → Fits facts history entry

-- so each entry of a history that an account holds fits those before it, whoever made it
abbrev pub HeldHistoriesAreSound : Type 0
HeldHistoriesAreSound = (facts : RealmFacts) (history : List Entry) → IsAccountNumber facts.account → IsHeld facts history → IsSound facts history

-- and each entry of a lawful history does
abbrev pub LawfulHistoriesAreSound : Type 0
LawfulHistoriesAreSound = (facts : RealmFacts) (history : List Entry) → IsAccountNumber facts.account → IsLawful facts history → IsSound facts history

-- ---- an account that is opened with entries

-- a history that begins with these entries, each further one being one that may come next after those before it
pub data GoesOn (facts : RealmFacts) (front : List Entry) : List Entry → Type 0 where
  from_here : GoesOn facts front front
  with_next : {history : List Entry} (entry : Entry) → GoesOn facts front history → IsNext facts history entry → GoesOn facts front (history ++ entry ∷ [])

-- ---- entries have the forms that a text can tell

-- the id of a key or a grant has its size, texts are UTF-8, names and principals have their forms, numbers their ranges, contexts are in order, and a set of
-- grant operations has no other bits
abbrev pub NextEntriesHaveForms : Type 0
NextEntriesHaveForms = (facts : RealmFacts) (history : List Entry) (entry : Entry) → IsAccountNumber facts.account → IsHeld facts history → IsNext facts history entry → IsEntry entry

-- so have the entries of a history that goes on from a sound one whose entries have them, which an account holds then
abbrev pub OpenedEntriesHaveForms : Type 0
OpenedEntriesHaveForms =
    (facts : RealmFacts) (front history : List Entry) → IsAccountNumber facts.account → IsSound facts front → All IsEntry front → GoesOn facts front history
    → IsHeld facts history × All IsEntry history

-- and those of a lawful history
abbrev pub LawfulEntriesHaveForms : Type 0
LawfulEntriesHaveForms = (facts : RealmFacts) (history : List Entry) → IsAccountNumber facts.account → IsLawful facts history → All IsEntry history

-- what is read of a line has them too
abbrev pub ReadEntriesHaveForms : Type 0
ReadEntriesHaveForms = (line : List ℕ) (entry : Entry) → entry_of line ≡ Some entry → IsEntry entry

-- what is read of a journal is a history that an opened account holds, so that the laws of such histories hold of it, and its entries have these forms
abbrev pub LoadedHistoriesAreOpened : Type 0
LoadedHistoriesAreOpened =
    (facts : RealmFacts) (bytes : List ℕ) (history : List Entry) → IsJournalOf facts bytes history → All IsReadBack history → IsOpened facts history × All IsEntry history

-- ---- texts differ

-- the account's number and the region have their forms, and the boot number has 32 bits
pub record AreProper (facts : RealmFacts) : Type 0 where
  pub account : IsAccountNumber facts.account
  pub region : IsRegion facts.region
  pub boot : facts.boot < 2 ^ 32

-- the account, the region, the boot number and the entries are the same
pub record TellTheSame (facts : RealmFacts) (history : List Entry) (others : RealmFacts) (other : List Entry) : Type 0 where
  pub account : facts.account ≡ others.account
  pub region : facts.region ≡ others.region
  pub boot : facts.boot ≡ others.boot
  pub entries : history ≡ other

-- two texts of entries that have their forms tell the same where they are equal; a text doesn't tell its root secret
abbrev pub JournalsDiffer : Type 0
JournalsDiffer =
    (facts others : RealmFacts) (history other : List Entry) → AreProper facts → AreProper others → All IsEntry history → All IsEntry other
    → journal_text facts history ≡ journal_text others other → TellTheSame facts history others other

-- and so do two texts of lawful histories
abbrev pub LawfulJournalsDiffer : Type 0
LawfulJournalsDiffer =
    (facts others : RealmFacts) (history other : List Entry) → AreProper facts → AreProper others → IsLawful facts history → IsLawful others other
    → journal_text facts history ≡ journal_text others other → TellTheSame facts history others other

-- ---- texts are read back

-- what was written under the first facts may be read under the others: these have the same account, region and root secret, and a higher boot number of 32 bits
pub record MayRead (facts later : RealmFacts) : Type 0 where
  pub account : later.account ≡ facts.account
  pub region : later.region ≡ facts.region
  pub root : later.root ≡ facts.root
  pub higher : facts.boot < later.boot
  pub small : later.boot < 2 ^ 32

-- the bytes are a journal, under these facts, of this history, and of no other whose entries have their forms; and its entries have them, and are so few that a last line can
-- tell their number
pub record IsReadAs (facts : RealmFacts) (bytes : List ℕ) (history : List Entry) : Type 0 where
  pub journal : IsJournalOf facts bytes history
  pub forms : All IsEntry history
  pub few : length history < 10 ^ 18
  pub alone : (other : List Entry) → All IsEntry other → IsJournalOf facts bytes other → other ≡ history

-- the text of a history that an account holds, whose entries have their forms, is read as it by whoever may read it
abbrev pub JournalIsReadBack : Type 0
JournalIsReadBack =
    (facts later : RealmFacts) (history : List Entry) → IsAccountNumber facts.account → IsHeld facts history → All IsEntry history → MayRead facts later
    → IsReadAs later (journal_text facts history) history

-- so is the text of a history that goes on from a sound one whose entries have their forms
abbrev pub OpenedJournalIsReadBack : Type 0
OpenedJournalIsReadBack =
    (facts later : RealmFacts) (front history : List Entry) → IsAccountNumber facts.account → IsSound facts front → All IsEntry front → GoesOn facts front history → MayRead facts later
    → IsReadAs later (journal_text facts history) history

-- and the text of a lawful history
abbrev pub LawfulJournalIsReadBack : Type 0
LawfulJournalIsReadBack =
    (facts later : RealmFacts) (history : List Entry) → IsAccountNumber facts.account → IsLawful facts history → MayRead facts later → IsReadAs later (journal_text facts history) history

-- ---- a text is judged once

-- the bytes are a journal of this history under these facts, and the line of each of its entries is read as that entry
pub record IsTextOf (facts : RealmFacts) (bytes : List ℕ) (history : List Entry) : Type 0 where
  pub journal : IsJournalOf facts bytes history
  pub read : All IsReadBack history

-- a fault of the bytes, other than want of memory
pub record IsFirstFault (facts : RealmFacts) (bytes : List ℕ) (fault : JournalFault) : Type 0 where
  pub is : IsFault facts bytes fault
  pub own : fault ≢ NoMemory

-- bytes are the text of one history at most, or have exactly one first fault: never both where the facts' boot number has 32 bits
pub record IsJudgedOnce (facts : RealmFacts) (bytes : List ℕ) : Type 0 where
  pub one : facts.boot < 2 ^ 32 → (history other : List Entry) → IsTextOf facts bytes history → IsTextOf facts bytes other → history ≡ other
  pub first : (fault other : JournalFault) → IsFirstFault facts bytes fault → IsFirstFault facts bytes other → fault ≡ other
  pub either : ((history : List Entry) × IsTextOf facts bytes history) ⊎ ((fault : JournalFault) × IsFirstFault facts bytes fault)
  pub apart : facts.boot < 2 ^ 32 → (history : List Entry) (fault : JournalFault) → IsTextOf facts bytes history → ¬ (IsFirstFault facts bytes fault)

abbrev pub JournalsAreJudgedOnce : Type 0
JournalsAreJudgedOnce = (facts : RealmFacts) (bytes : List ℕ) → IsJudgedOnce facts bytes

-- ---- markers of tags

-- the marker of a tag of a key, sent back, is read as the key that it was made of
abbrev pub TagIsReadBack : List ℕ × List ℕ → Type 0
TagIsReadBack pair = behind_marker (Some (marker_of (tag_of pair))) ≡ Ok (Some pair.0)

-- such is each tag of each key, where the entries have their forms
abbrev pub TagMarkersAreReadBack : Type 0
TagMarkersAreReadBack = (history : List Entry) → All IsEntry history → All (λ (row : KeyRow). All TagIsReadBack row.tags) (replay history).keys

-- so it is where a history goes on from a sound one whose entries have their forms
abbrev pub TagMarkersOfOpened : Type 0
TagMarkersOfOpened =
    (facts : RealmFacts) (front history : List Entry) → IsAccountNumber facts.account → IsSound facts front → All IsEntry front → GoesOn facts front history
    → All (λ (row : KeyRow). All TagIsReadBack row.tags) (replay history).keys

-- and where it is lawful
abbrev pub TagMarkersOfLawful : Type 0
TagMarkersOfLawful =
    (facts : RealmFacts) (history : List Entry) → IsAccountNumber facts.account → IsLawful facts history → All (λ (row : KeyRow). All TagIsReadBack row.tags) (replay history).keys
