-- The text of a history that an account holds is a journal of it, and of no other.
use Rattle.std.proofs.Common.{◌≡◌, ◌≤◌, ◌<◌, ◌^◌, List, length, sym, ◌∙◌, lit≤, arith}
use Rattle.std.specs.Prelude.{All}
use Rattle.account_steps.specs.declared.facts.RealmFacts.{RealmFacts}
use Rattle.account_rows.specs.declared.entries.Entry.{Entry}
use Rattle.account_rows.proofs.RowFacts.{length-push}
use Rattle.account_core.specs.Fitting.{IsSound, nothing, one_more}
use Rattle.account_core.proofs.Histories.{fitting_of}
use Rattle.journal_lines.specs.Forms.{IsEntry}
use Rattle.journal_file.specs.Journal.{text_under, journal_text}
use Rattle.journal_file.specs.Faults.{IsJournalOf, text_at}
use Rattle.journal_laws.specs.Laws.{MayRead, JournalIsReadBack, OpenedJournalIsReadBack, LawfulJournalIsReadBack, LawfulJournalsDiffer}
use Rattle.journal_laws.proofs.Sound.{held_is_sound, lawful_is_held, lawful_is_formed, opened_is_formed, sound_under}
use Rattle.journal_laws.proofs.Telling.{boot_and_history, texts_differ}

-- a sound history has at most 1,000,000 entries
pub few_entries : (facts : RealmFacts) (history : List Entry) → IsSound facts history → length history ≤ 1000000
few_entries facts history nothing = omega arith
few_entries facts history (one_more {history = front} entry sound fits) =
    let few : length front < 1000000 = (fitting_of facts front entry fits).few in omega (arith, few, length-push front entry)

module _ (facts later : RealmFacts) (may : MayRead facts later) (history : List Entry) where
  -- its text is that under the facts that read it
  here : journal_text facts history ≡ text_at later facts.boot history
  here i = text_under (sym may.account i) (sym may.region i) (sym may.root i) facts.boot history

  only : All IsEntry history → (other : List Entry) → All IsEntry other → IsJournalOf later (journal_text facts history) other → other ≡ history
  only forms other others is =
      let higher : facts.boot < later.boot = may.higher in
      let small : later.boot < 2 ^ 32 = may.small in
      let lower : is.boot < later.boot = is.lower in
      (boot_and_history later.account later.region later.root later.root is.boot facts.boot other history (omega (arith, lower, small)) (omega (arith, higher, small)) others forms (sym is.text ∙ here)).1

pub read_back : JournalIsReadBack
read_back facts later history number held forms may =
    let sound = held_is_sound facts history number held in
    let few : length history ≤ 1000000 = few_entries facts history sound in
    let top : 1000001 ≤ 10 ^ 18 = lit≤ tt in
    record {
      journal = record { boot = facts.boot; lower = may.higher; sound = sound_under facts later history sound; text = here facts later may history };
      forms = forms;
      few = omega (arith, few, top);
      alone = only facts later may history forms;
    }

pub opened_read_back : OpenedJournalIsReadBack
opened_read_back facts later front history number sound forms on may =
    let whole = opened_is_formed facts front history number sound forms on in
    read_back facts later history number whole.0 whole.1 may

pub lawful_read_back : LawfulJournalIsReadBack
lawful_read_back facts later history number lawful may =
    read_back facts later history number (lawful_is_held facts history lawful) (lawful_is_formed facts history number lawful) may

pub lawful_texts_differ : LawfulJournalsDiffer
lawful_texts_differ facts others history other proper fit lawful law e =
    texts_differ facts others history other proper fit (lawful_is_formed facts history proper.account lawful) (lawful_is_formed others other fit.account law) e
