-- What the program comes to where nothing disturbs it.
use Rattle.std.specs.Prelude.{◌≡◌, ℕ, List, Bool, false, Option, None, Some, length}
use Rattle.kms_io.specs.Wire.{Wire, RoseBy}
use Rattle.kms_io.specs.QuietLink.{LiesBeneath}
use Rattle.kms_config.specs.declared.config.Config.{Config}
use Rattle.session_front.specs.Items.{Item}
use Rattle.session_front.specs.Sending.{SendsWhole}
use Rattle.session_front.specs.Session.{outside}
use Rattle.session_front.specs.Complete.{IsAsked}
use Rattle.session_front.specs.Complete.{AnswersEach}
use Rattle.kms_session.specs.Run.{turns}
use Rattle.kms_words.specs.Words.{Command, Source, run, explain, export, check, serve, load}
use Rattle.explain_session.specs.Explaining.{Explainer, fresh, tells}
use Rattle.published_account.specs.Pairs.{entries_of}
use Rattle.publish_pass.specs.Pass.{Pass, fresh_pass}
use Rattle.kms_workload.specs.Summary.{Summarizes}
use Rattle.kms_program.specs.declared.settings.Settings.{Settings}
use Rattle.account_core.specs.Account.{Account}
use Rattle.journal_file.specs.Journal.{journal_text}
use Rattle.session_front.specs.declared.trust.Trust.{Trust}
use Rattle.kms_io.specs.Shelf.{Shelf}
use Rattle.kms_program.specs.Journals.{IsBegun}
use Rattle.kms_program.specs.Files.{IsFileOf}
use Rattle.kms_program.specs.Statuses.{well, refused, no_memory}
use Rattle.kms_program.specs.Program.{Around, IsFrom, checked_line, quiet_over}

-- neither count of the link's faults rises, nor that of the files'
pub record IsCalm (old new : Around) : Type 0 where
  pub reads : ¬ (RoseBy 1 old.wire.read_faults new.wire.read_faults)
  pub writes : ¬ (RoseBy 1 old.wire.write_faults new.wire.write_faults)
  pub files : ¬ (RoseBy 1 old.shelf.faults new.shelf.faults)

-- A session of this account was served, each of these messages was answered, once and in order, and nothing else was written. The status is 0.
pub record ServesEach (items : List Item) (account : Account) (trust : Trust) (status : ℕ) (old new : Around) : Type 0 where
  pub pass : Pass
  pub each : AnswersEach (turns false trust) items (outside old.wire old.clock (fresh_pass account.facts 1 account.entries 1)) (outside new.wire new.clock pass)
  pub status_is : status ≡ well

-- A session of this account was explained, each of these messages had its line, once and in order, and nothing else was written. The status is 0.
pub record ExplainsEach (items : List Item) (account : Account) (trust : Trust) (status : ℕ) (old new : Around) : Type 0 where
  pub last : Explainer
  pub each : AnswersEach (tells trust) items (outside old.wire old.clock (fresh account)) (outside new.wire new.clock last)
  pub status_is : status ≡ well

-- A session of this account was served with its replies kept back, each of these messages was answered, once and in order, and nothing but the journal of the account
-- that they leave was written. The status is 0.
pub record ExportsEach (items : List Item) (account : Account) (trust : Trust) (status : ℕ) (old new : Around) : Type 0 where
  pub pass : Pass
  pub quiet : Wire
  pub each : AnswersEach (turns false trust) items (outside (quiet_over old.wire) old.clock (fresh_pass account.facts 1 account.entries 1)) (outside quiet new.clock pass)
  pub beneath : Wire
  pub lies : LiesBeneath old.wire quiet beneath
  pub writes : SendsWhole beneath new.wire (journal_text pass.facts (entries_of pass.history))
  pub status_is : status ≡ well

-- the right settings of a session, and the account that it begins with
pub record IsRight (shelf : Shelf) (source : Source) (journal : Option (List ℕ)) (settings : Settings) (account : Account) : Type 0 where
  pub settings_are : IsFrom shelf source settings
  pub begun : IsBegun shelf journal settings.facts account

-- so it is with the right settings and account; or the configuration, a value, or the journal was refused; or memory was wanting, and this holds
pub data ComesTo (Right Each : Settings → Account → Type 0) (Starved : Type 0) (status : ℕ) : Type 0 where
  comes_to_each : (settings : Settings) (account : Account) → Right settings account → Each settings account → ComesTo Right Each Starved status
  is_refused : status ≡ refused → ComesTo Right Each Starved status
  is_starved : status ≡ no_memory → Starved → ComesTo Right Each Starved status

-- whatever whole messages the link has to give, or some up to one that closes
abbrev pub OnMessages : Around → Around → (List Item → Type 0) → Type 0
OnMessages old new Holds = (input : List ℕ) (closes : Bool) (items : List Item) → IsCalm old new → old.wire.left ≡ Some input → IsAsked input closes items → Holds items

-- each is answered; where memory was wanting nothing was taken from the link or written
abbrev pub RunCompletes : (Settings → Account → Type 0) → ℕ → Around → Around → Type 0
RunCompletes Right status old new =
    OnMessages old new (λ items. ComesTo Right (λ settings account. ServesEach items account settings.trust status old new) (new.wire ≡ old.wire) status)

-- each has its line, or memory was wanting for one
abbrev pub ExplainCompletes : (Settings → Account → Type 0) → ℕ → Around → Around → Type 0
ExplainCompletes Right status old new =
    OnMessages old new (λ items. ComesTo Right (λ settings account. ExplainsEach items account settings.trust status old new) (Unit {0}) status)

-- each is answered, and the journal of what they leave is written; where memory was wanting nothing is written
abbrev pub ExportCompletes : (Settings → Account → Type 0) → ℕ → Around → Around → Type 0
ExportCompletes Right status old new =
    OnMessages old new (λ items. ComesTo Right (λ settings account. ExportsEach items account settings.trust status old new) (new.wire.written ≡ old.wire.written) status)

-- `check` writes the line of the file's numbers whole
pub record TellsNumbers (old : Around) (file : List ℕ) (before after : Wire) : Type 0 where
  pub config : Config
  pub is : IsFileOf old.shelf file config
  pub tells : SendsWhole before after (checked_line (length config.credentials) (length config.facts.identities))

pub data CheckComesTo (file : List ℕ) (status : ℕ) (old new : Around) : Type 0 where
  tells_numbers : TellsNumbers old file old.wire new.wire → status ≡ well → CheckComesTo file status old new
  is_no_config : status ≡ refused → CheckComesTo file status old new
  has_no_memory : status ≡ no_memory → CheckComesTo file status old new

-- `load` writes its lines whole
pub data LoadComesTo (seed requests status : ℕ) (old new : Wire) : Type 0 where
  sums_up : (lines : List ℕ) → Summarizes seed requests lines → SendsWhole old new lines → status ≡ well → LoadComesTo seed requests status old new
  lacks_memory : status ≡ no_memory → LoadComesTo seed requests status old new

-- what a command comes to; of a server each connection says it
abbrev pub Completes : Option Command → ℕ → Around → Around → Type 0
Completes None status old new = Unit {0}
Completes (Some (run source journal)) status old new = RunCompletes (IsRight old.shelf source journal) status old new
Completes (Some (explain source journal)) status old new = ExplainCompletes (IsRight old.shelf source journal) status old new
Completes (Some (export source journal)) status old new = ExportCompletes (IsRight old.shelf source journal) status old new
Completes (Some (check file)) status old new = IsCalm old new → CheckComesTo file status old new
Completes (Some (serve values)) status old new = Unit {0}
Completes (Some (load seed requests)) status old new = IsCalm old new → LoadComesTo seed requests status old.wire new.wire
