-- What the program does.
use Rattle.std.specs.Prelude.{◌≡◌, ⊤, ◌⊎◌, ◌++◌, ◌∷◌, ℕ, List, [], length, decimal, codes, drop, Bool, true, false, Option, None, Some}
use Rattle.kms_io.specs.Wire.{Wire, RoseBy}
use Rattle.kms_io.specs.Shelf.{Shelf}
use Rattle.kms_io.specs.Doorway.{Doorway}
use Rattle.kms_io.specs.QuietLink.{LiesBeneath}
use Rattle.kms_io.specs.Files.{Asks, MayAsk}
use Rattle.account_steps.specs.declared.facts.RealmFacts.{RealmFacts}
use Rattle.kms_config.specs.declared.config.Config.{Config}
use Rattle.session_front.specs.declared.trust.Trust.{Trust}
use Rattle.session_front.specs.declared.trust.Trust.TheVariants.{Signed}
use Rattle.kms_program.specs.Statuses.{well, misused, refused, cut_off, unread, unwritten, no_memory}
use Rattle.explain_session.specs.Session.{Explained}
use Rattle.kms_program.specs.declared.sessions.Task.{Task}
use Rattle.kms_program.specs.declared.sessions.Task.TheVariants.{Serve, Explain, Export}
use Rattle.kms_program.specs.declared.settings.Settings.{Settings}
use Rattle.kms_program.specs.declared.settings.RunOption.{RunOption}
use Rattle.kms_program.specs.declared.settings.RunOption.TheVariants as option
use Rattle.session_front.specs.declared.ends.SessionEnd.{SessionEnd}
use Rattle.session_front.specs.declared.ends.SessionEnd.TheVariants.{Ended, Closed, CutOff, ReadFault, WriteFault, NoMemory}
use Rattle.published_account.specs.Pairs.{entries_of}
use Rattle.publish_pass.specs.Pass.{Pass, fresh_pass, first_places}
use Rattle.session_front.specs.Sending.{SendsWhole, SendsShort}
use Rattle.session_front.specs.Session.{outside}
use Rattle.kms_session.specs.Session.{EndsBy}
use Rattle.account_core.specs.Account.{Account}
use Rattle.account_steps.specs.History.{Entry}
use Rattle.journal_file.specs.Journal.{journal_text}
use Rattle.kms_program.specs.Journals.{IsBegun, AsksJournal, MayAskJournal, IsJournalRefused}
use Rattle.kms_server.specs.declared.crew.Kept.{Kept}
use Rattle.kms_server.specs.declared.crew.Kept.TheVariants as kept
use Rattle.kms_server.specs.declared.server.Served.{Served}
use Rattle.kms_server.specs.Server.{Wanted, Surroundings, surroundings, ServesDoor, FindsShut, OpensNothing}
use Rattle.kms_workload.specs.Summary.{Summarizes}
use Rattle.kms_words.specs.Words.{Command, Source, RunValues, ServeValues, of_values, of_file, run, explain, export, check, serve, load, command_of}
use Rattle.kms_program.specs.Settings.{IsSettings, IsRefusedAt, IsConfigured, IsNobody}
use Rattle.kms_program.specs.Files.{IsFileOf, KnowsCallers, IsFileRefused, IsFileTooLong}

-- what the link and the files show, and what the first clock tells
pub record Around : Type 0 where
  pub wire : Wire
  pub clock : Option (List ℕ)
  pub shelf : Shelf

abbrev pub around : Wire → Option (List ℕ) → Shelf → Around
around wire clock shelf = record { wire = wire; clock = clock; shelf = shelf }

-- ---- lines

abbrev pub usage_line : List ℕ
usage_line = codes "usage: kms_local run|serve|load|check|explain|export\n"

abbrev pub path_of : RunOption → List ℕ
path_of option.Account = codes "/account"
path_of option.Region = codes "/region"
path_of option.Root = codes "/root"
path_of option.Boot = codes "/boot"
path_of option.As = codes "/as"

-- the line of a path at which the configuration is refused
abbrev pub refused_line : List ℕ → List ℕ
refused_line path = codes "configuration refused at " ++ path ++ codes "\n"

-- the line of a configuration with so many credentials and so many principals with policies
abbrev pub checked_line : ℕ → ℕ → List ℕ
checked_line credentials principals = codes "ok credentials " ++ decimal credentials ++ codes " principals " ++ decimal principals ++ codes "\n"

-- the line of so many connections, and of the most entries that a pass holds
abbrev pub served_line : ℕ → ℕ → List ℕ
served_line connections front = codes "served " ++ decimal connections ++ codes " front " ++ decimal front ++ codes "\n"

-- the line was written, or a front of it, and then the link failed
abbrev pub SaysLine : List ℕ → Wire → Wire → Type 0
SaysLine line old new = SendsWhole old new line ⊎ SendsShort old new line

-- ---- statuses

abbrev pub status_of_end : SessionEnd → ℕ
status_of_end Ended = well
status_of_end Closed = well
status_of_end CutOff = cut_off
status_of_end ReadFault = unread
status_of_end WriteFault = unwritten
status_of_end NoMemory = no_memory

-- One session is served by the one pass of a service that begins with the entries of this account and keeps nothing, and ends so. The history is at last exactly these, and then
-- the session's own entries, and each answer stands on a beginning of it.
pub record Serving (account : Account) (trust : Trust) (end : SessionEnd) (old : Wire) (told : Option (List ℕ)) (new : Wire) (later : Option (List ℕ)) : Type 0 where
  pub pass : Pass
  pub ends : EndsBy false trust end (outside old told (fresh_pass account.facts 1 account.entries 1)) (outside new later pass)
  pub made_all : first_places (length pass.history) ≡ first_places (length account.entries) ++ pass.own

-- one session of this account is served, and the status is that of its end
pub record Serves (account : Account) (trust : Trust) (status : ℕ) (old new : Around) : Type 0 where
  pub end : SessionEnd
  pub serving : Serving account trust end old.wire old.clock new.wire new.clock
  pub status_is : status ≡ status_of_end end
  pub shelf : new.shelf ≡ old.shelf

-- the account that a session leaves, where it is kept
abbrev pub IsKeptOf : Pass → Kept → Type 0
IsKeptOf s kept.Nothing = ⊤
IsKeptOf s (kept.Whole account) = (account.facts ≡ s.facts) × (account.entries ≡ entries_of s.history)
IsKeptOf s kept.NoMemory = ⊤

-- one session is served so, and this is kept of the account that it leaves
pub record Holding (account : Account) (trust : Trust) (end : SessionEnd) (left : Kept) (old : Wire) (told : Option (List ℕ)) (new : Wire) (later : Option (List ℕ)) : Type 0 where
  pub serving : Serving account trust end old told new later
  pub keeps : IsKeptOf serving.pass left

-- one session of this account is explained, and the status is that of its end
pub record Explains (account : Account) (trust : Trust) (status : ℕ) (old new : Around) : Type 0 where
  pub end : SessionEnd
  pub explained : Explained account trust end old.wire old.clock new.wire new.clock
  pub status_is : status ≡ status_of_end end
  pub shelf : new.shelf ≡ old.shelf

-- the line is written, as far as it can be, and the status is this one whether it can or not; the clock isn't asked
pub record Says (line : List ℕ) (owed status : ℕ) (old new : Around) : Type 0 where
  pub says : SaysLine line old.wire new.wire
  pub status_is : status ≡ owed
  pub clock : new.clock ≡ old.clock

-- the line is written whole, and the status is 0; or it can't be, and the status is 6
pub data Tells (line : List ℕ) (status : ℕ) (old new : Around) : Type 0 where
  whole : SendsWhole old.wire new.wire line → status ≡ well → new.clock ≡ old.clock → Tells line status old new
  short : SendsShort old.wire new.wire line → status ≡ unwritten → new.clock ≡ old.clock → Tells line status old new

-- nothing is written and the clock isn't asked
pub record Rests (owed status : ℕ) (old new : Around) : Type 0 where
  pub nothing : new.wire ≡ old.wire
  pub status_is : status ≡ owed
  pub clock : new.clock ≡ old.clock

-- the line of a path is written, as far as it can be, and the status is 3; or there is no memory for the line
abbrev pub Refuses : List ℕ → ℕ → Around → Around → Type 0
Refuses path status old new = Says (refused_line path) refused status old new ⊎ Rests no_memory status old new

-- ---- commands

-- what a command with values does, where this is what it does with the settings that they stand for: or the line of the first one that
-- has not its form
pub data WithValues (values : RunValues) (status : ℕ) (old new : Around) (Does : Settings → Type 0) : Type 0 where
  right : (settings : Settings) → IsSettings values settings → Does settings → WithValues values status old new Does
  refuses : (option : RunOption) → IsRefusedAt values option → Says (refused_line (path_of option)) refused status old new → WithValues values status old new Does
  lacks : Rests no_memory status old new → WithValues values status old new Does

-- the file was asked for once, and there is no configuration in it: the line of its first fault, or none where it can't be read
pub data RunsNoFile (file : List ℕ) (status : ℕ) (old new : Around) : Type 0 where
  refuses : (path : List ℕ) → IsFileRefused old.shelf file path → Says (refused_line path) refused status old new → RunsNoFile file status old new
  too_long : IsFileTooLong old.shelf file → Says (refused_line (codes "/")) refused status old new → RunsNoFile file status old new
  fails : RoseBy 1 old.shelf.faults new.shelf.faults → Rests unread status old new → RunsNoFile file status old new

-- what a command with the settings of a file does, once the file is a configuration, where this is what it does with them: or the line
-- of a caller who is nobody of the account
pub data WithConfig (config : Config) (caller : Option (List ℕ)) (status : ℕ) (old new : Around) (Does : Settings → Type 0) : Type 0 where
  right : (settings : Settings) → IsConfigured config caller settings → Does settings → WithConfig config caller status old new Does
  refuses : IsNobody config caller → Says (refused_line (path_of option.As)) refused status old new → WithConfig config caller status old new Does
  lacks : Rests no_memory status old new → WithConfig config caller status old new Does

-- what `check` does, once the file is a configuration: the line of its numbers
pub data Checks (config : Config) (status : ℕ) (old new : Around) : Type 0 where
  tells : Tells (checked_line (length config.credentials) (length config.facts.identities)) status old new → Checks config status old new
  lacks : Rests no_memory status old new → Checks config status old new

-- what a command with a file does, where this is what it does with a configuration
pub data WithFile (file : List ℕ) (status : ℕ) (old new : Around) (Does : Config → Type 0) : Type 0 where
  configured : (config : Config) → IsFileOf old.shelf file config → KnowsCallers config.facts (Signed config.credentials) → Asks old.shelf file new.shelf → Does config → WithFile file status old new Does
  not_configured : RunsNoFile file status old new → Asks old.shelf file new.shelf → WithFile file status old new Does
  lacks : Rests no_memory status old new → MayAsk old.shelf file new.shelf → WithFile file status old new Does

-- what a command with the settings of a session does, where this is what it does with them; without a file none is asked for
abbrev pub FromSource : Source → ℕ → Around → Around → (Settings → Type 0) → Type 0
FromSource (of_values values) status old new Does = WithValues values status old new Does × (new.shelf ≡ old.shelf)
FromSource (of_file file caller) status old new Does = WithFile file status old new (λ config. WithConfig config caller status old new Does)

-- ---- where a session begins

-- the file of a session's settings was asked for once, if they come from one
abbrev pub AsksSource : Source → Shelf → Shelf → Type 0
AsksSource (of_values values) old new = new ≡ old
AsksSource (of_file file caller) old new = Asks old file new

-- the settings of a file, with the caller who is told
pub record IsOfFile (shelf : Shelf) (file : List ℕ) (caller : Option (List ℕ)) (settings : Settings) : Type 0 where
  pub config : Config
  pub is : IsFileOf shelf file config
  pub configured : IsConfigured config caller settings

-- the settings of a session, by where they come from
abbrev pub IsFrom : Shelf → Source → Settings → Type 0
IsFrom shelf (of_values values) settings = IsSettings values settings
IsFrom shelf (of_file file caller) settings = IsOfFile shelf file caller settings

-- there is no account to begin with: the journal's file was asked for, and is refused at a path, or can't be read; or memory was wanting
pub data NoAccount (facts : RealmFacts) (journal : Option (List ℕ)) (status : ℕ) (old new : Around) : Type 0 where
  no_journal : (file path : List ℕ) → journal ≡ Some file → IsJournalRefused old.shelf file facts path → Asks old.shelf file new.shelf → Refuses path status old new
      → NoAccount facts journal status old new
  unread_journal : (file : List ℕ) → journal ≡ Some file → RoseBy 1 old.shelf.faults new.shelf.faults → Asks old.shelf file new.shelf → Rests unread status old new
      → NoAccount facts journal status old new
  no_room : MayAskJournal journal old.shelf new.shelf → Rests no_memory status old new → NoAccount facts journal status old new

-- What a command does with settings: with the account that it begins with it does this, once the journal's file was asked for, if one is named; or there is no
-- account.
pub data Begins (facts : RealmFacts) (journal : Option (List ℕ)) (status : ℕ) (old new : Around) (Does : Account → Around → Type 0) : Type 0 where
  begun : (account : Account) (met : Shelf) → IsBegun old.shelf journal facts account → AsksJournal journal old.shelf met → Does account (around old.wire old.clock met)
      → Begins facts journal status old new Does
  not_begun : NoAccount facts journal status old new → Begins facts journal status old new Does

-- what a command about a session does, where this is what it does with its settings and the account that it begins with; or there are no settings
pub data WithSession (source : Source) (journal : Option (List ℕ)) (status : ℕ) (old new : Around) (Does : Settings → Account → Around → Type 0) : Type 0 where
  with_settings : (settings : Settings) (met : Shelf) → IsFrom old.shelf source settings → KnowsCallers settings.facts settings.trust → AsksSource source old.shelf met
      → Begins settings.facts journal status (around old.wire old.clock met) new (Does settings) → WithSession source journal status old new Does
  no_settings : FromSource source status old new (λ settings. ⊥) → WithSession source journal status old new Does

-- ---- all that the program uses

-- what the link, the files and the door show, and what the clocks tell, in order
pub record Everything : Type 0 where
  pub wire : Wire
  pub shelf : Shelf
  pub door : Doorway
  pub clocks : List (Option (List ℕ))

abbrev pub everything : Wire → Shelf → Doorway → List (Option (List ℕ)) → Everything
everything wire shelf door clocks = record { wire = wire; shelf = shelf; door = door; clocks = clocks }

-- what the first clock tells
abbrev pub first_of : List (Option (List ℕ)) → Option (List ℕ)
first_of [] = None
first_of (told ∷ others) = told

-- the same for one that uses the link, the first clock and the files alone
abbrev pub one_of : Everything → Around
one_of all = around all.wire (first_of all.clocks) all.shelf

-- no door is opened, and no other clock than the first is asked
pub record LeavesOthers (old new : Everything) : Type 0 where
  pub door : new.door ≡ old.door
  pub clocks : drop 1 new.clocks ≡ drop 1 old.clocks

-- no door is opened, and no clock is asked
pub record AsksNone (old new : Everything) : Type 0 where
  pub door : new.door ≡ old.door
  pub clocks : new.clocks ≡ old.clocks

-- nothing but the link is used
pub record AsksNothing (old new : Everything) : Type 0 where
  pub shelf : new.shelf ≡ old.shelf
  pub none : AsksNone old new

-- ---- a server

-- what `serve` wants
abbrev pub wanted_of : ServeValues → Wanted
wanted_of values = record { address = values.address; workers = values.workers; connections = values.connections; keeps = values.exports }

-- Lines are written, and the status is 0 if all is well, and else 5; or they can't be written whole, and it is 6.
abbrev pub Reports : Bool → List ℕ → ℕ → Wire → Wire → Type 0
Reports true lines status old new = (SendsWhole old new lines × (status ≡ well)) ⊎ (SendsShort old new lines × (status ≡ unwritten))
Reports false lines status old new = (SendsWhole old new lines × (status ≡ unread)) ⊎ (SendsShort old new lines × (status ≡ unwritten))

abbrev pub around_door : Everything → Surroundings
around_door all = surroundings all.door all.clocks

-- the journal of what is kept of an account; nothing where it isn't kept
abbrev pub IsJournalKept : Kept → List ℕ → Type 0
IsJournalKept kept.Nothing journal = journal ≡ []
IsJournalKept (kept.Whole account) journal = journal ≡ journal_text account.facts account.entries
IsJournalKept kept.NoMemory journal = ⊥

-- what `serve` does with the account that it begins with: its connections are served, and then comes the line of what was served, and the journal where that is
-- wanted, unless there is no memory for these; or the door can't be opened; or there is no memory to serve
pub data ServesAccount (account : Account) (trust : Trust) (values : ServeValues) (status : ℕ) (old new : Everything) : Type 0 where
  serves : (history : List (Entry × ℕ)) (served : Served) (kept : Kept) (journal : List ℕ)
      → ServesDoor false account trust (wanted_of values) history served kept (around_door old) (around_door new) → IsJournalKept kept journal
      → Reports served.is_whole (served_line served.connections served.front ++ journal) status old.wire new.wire → ServesAccount account trust values status old new
  serves_unsaid : (history : List (Entry × ℕ)) (served : Served) (kept : Kept) → ServesDoor false account trust (wanted_of values) history served kept (around_door old) (around_door new)
      → new.wire ≡ old.wire → status ≡ no_memory → ServesAccount account trust values status old new
  finds_shut : FindsShut (wanted_of values) (around_door old) (around_door new) → new.wire ≡ old.wire → status ≡ unread → ServesAccount account trust values status old new
  lacks : OpensNothing (wanted_of values) (around_door old) (around_door new) → new.wire ≡ old.wire → status ≡ no_memory → ServesAccount account trust values status old new

-- what `serve` does, once the file is a configuration: the file of the journal is asked for, if one is named, and then the door; or there is no account
pub data ServesConfig (config : Config) (values : ServeValues) (status : ℕ) (old new : Everything) : Type 0 where
  serves_begun : (account : Account) → IsBegun old.shelf values.load config.facts account → AsksJournal values.load old.shelf new.shelf
      → ServesAccount account (Signed config.credentials) values status old new → ServesConfig config values status old new
  serves_none : NoAccount config.facts values.load status (one_of old) (one_of new) → AsksNone old new → ServesConfig config values status old new

-- all but the files is as it was, and these are the files
abbrev pub with_shelf : Everything → Shelf → Everything
with_shelf all shelf = everything all.wire shelf all.door all.clocks

-- what `serve` does: the file was asked for first
pub data ServesFile (values : ServeValues) (status : ℕ) (old new : Everything) : Type 0 where
  configured : (config : Config) (met : Shelf) → IsFileOf old.shelf values.file config → KnowsCallers config.facts (Signed config.credentials) → Asks old.shelf values.file met
      → ServesConfig config values status (with_shelf old met) new → ServesFile values status old new
  otherwise : WithFile values.file status (one_of old) (one_of new) (λ config. ⊥) → AsksNone old new → ServesFile values status old new

-- ---- an export

-- what a connection that keeps what is written to it shows at first, over one that shows this
abbrev pub quiet_over : Wire → Wire
quiet_over wire = record wire { write_faults = 0 }

-- the journal of the account that was kept is written, or memory was wanting for it
pub data WritesKept (left : Kept) (status : ℕ) (old new : Wire) : Type 0 where
  keeps_journal : (account : Account) → left ≡ kept.Whole account → Reports true (journal_text account.facts account.entries) status old new → WritesKept left status old new
  lacks_journal : new ≡ old → status ≡ no_memory → WritesKept left status old new

-- what comes of each end of the session: the journal, or nothing. A write that fails there is want of memory
abbrev pub EndsExport : SessionEnd → Kept → ℕ → Wire → Wire → Type 0
EndsExport Ended left status old new = WritesKept left status old new
EndsExport Closed left status old new = WritesKept left status old new
EndsExport CutOff left status old new = (new ≡ old) × (status ≡ cut_off)
EndsExport ReadFault left status old new = (new ≡ old) × (status ≡ unread)
EndsExport WriteFault left status old new = (new ≡ old) × (status ≡ no_memory)
EndsExport NoMemory left status old new = (new ≡ old) × (status ≡ no_memory)

-- One session of this account is served over a connection that reads from the link and keeps what is written to it; nothing of that comes to the link. Then comes
-- what its end asks for.
pub record ExportsOver (account : Account) (trust : Trust) (status : ℕ) (old : Wire) (told : Option (List ℕ)) (new : Wire) (later : Option (List ℕ)) : Type 0 where
  pub end : SessionEnd
  pub left : Kept
  pub quiet : Wire
  pub beneath : Wire
  pub held : Holding account trust end left (quiet_over old) told quiet later
  pub lies : LiesBeneath old quiet beneath
  pub ends : EndsExport end left status beneath new

-- and no file is asked for
abbrev pub Exports : Account → Trust → ℕ → Around → Around → Type 0
Exports account trust status old new = ExportsOver account trust status old.wire old.clock new.wire new.clock × (new.shelf ≡ old.shelf)

-- what is done with a session
abbrev pub Conducts : Task → Account → Trust → ℕ → Around → Around → Type 0
Conducts Serve account trust status old new = Serves account trust status old new
Conducts Explain account trust status old new = Explains account trust status old new
Conducts Export account trust status old new = Exports account trust status old new

-- ---- a workload

-- what `load` does: the lines that sum up a run of its requests; or there is no memory
pub data Sums (seed requests status : ℕ) (old new : Wire) : Type 0 where
  sums : (lines : List ℕ) → Summarizes seed requests lines → Reports true lines status old new → Sums seed requests status old new
  lacks : new ≡ old → status ≡ no_memory → Sums seed requests status old new

-- ---- the program

-- what it does for a command, or for words that are none
abbrev pub Does : Option Command → ℕ → Everything → Everything → Type 0
Does None status old new = Says usage_line misused status (one_of old) (one_of new) × AsksNothing old new
Does (Some (run source journal)) status old new =
    WithSession source journal status (one_of old) (one_of new) (λ settings account met. Serves account settings.trust status met (one_of new)) × LeavesOthers old new
Does (Some (explain source journal)) status old new =
    WithSession source journal status (one_of old) (one_of new) (λ settings account met. Explains account settings.trust status met (one_of new)) × LeavesOthers old new
Does (Some (export source journal)) status old new =
    WithSession source journal status (one_of old) (one_of new) (λ settings account met. Exports account settings.trust status met (one_of new)) × LeavesOthers old new
Does (Some (check file)) status old new = WithFile file status (one_of old) (one_of new) (λ config. Checks config status (one_of old) (one_of new)) × AsksNone old new
Does (Some (serve values)) status old new = ServesFile values status old new
Does (Some (load seed requests)) status old new = Sums seed requests status old.wire new.wire × AsksNothing old new

-- what it does for these words; or there is no memory to read them
abbrev pub Runs : List (List ℕ) → ℕ → Everything → Everything → Type 0
Runs words status old new = Does (command_of words) status old new ⊎ (Rests no_memory status (one_of old) (one_of new) × AsksNothing old new)
