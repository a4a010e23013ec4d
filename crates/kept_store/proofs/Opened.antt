-- What opening a file comes to, from what was read of it.
use Rattle.std.proofs.Common.{◌≡◌, ◌≤◌, ℕ, List, length, IsTrue, sym, ap, ◌∙◌, subst}
use Rattle.account_steps.specs.declared.facts.RealmFacts.{RealmFacts}
use Rattle.account_steps.specs.History.{Entry}
use Rattle.account_core.specs.Account.{Account}
use Rattle.account_core.specs.Fitting.{IsHeld}
use Rattle.kept_log.specs.declared.device.Device as device
use Rattle.keepers.specs.Stores.{Opens}
use Rattle.kept_journal.specs.declared.told.Told.{Told}
use Rattle.kept_journal.specs.declared.reading.Read.{Read}
use Rattle.kept_journal.specs.declared.journal.KeptJournal.{KeptJournal}
use Rattle.kept_journal.specs.Reading.{IsReading}
use Rattle.kept_journal.specs.Starts.{entries_of}
use Rattle.kept_journal.specs.Keeping.{TellsEntries, ReadsEntries, IsKeptJournal}

module _ {D : Type 0} {g : device.Ghosts D} where
  pub opens : (facts later : RealmFacts) (read : Read) (told : List Told) (first last : List ℕ) (journal : KeptJournal D g)
      → (later ≡ record facts { boot = later.boot }) × (facts.boot ≤ later.boot) → IsReading later first told read → IsHeld read.account.facts read.account.entries → first ≡ last
      → ((t : List Told) → IsReading read.account.facts last t read → IsTrue journal.log.is_open)
      → ((t : List Told) → IsReading read.account.facts last t read → IsKeptJournal read.account.facts (g.moment journal.log.device) (length (entries_of t)) journal (entries_of t))
      → Opens (λ f j h. TellsEntries f j h) (λ j. j.log.is_open) (λ j. g.moment j.log.device) (λ j. g.left_since j.log.device) (λ f file h. ReadsEntries f file h) facts read.account journal
  opens facts later read told first last journal starts reading held same opened kept =
      let same_facts : read.account.facts ≡ later = ap (λ (a : Account). a.facts) reading.so_far.account in
      let entries : read.account.entries ≡ entries_of told = ap (λ (a : Account). a.entries) reading.so_far.account in
      let boot : later.boot ≡ read.account.facts.boot = sym (ap (λ (f : RealmFacts). f.boot) same_facts) in
      let here = subst (λ (bytes : List ℕ). IsReading read.account.facts bytes told read) same (subst (λ (f : RealmFacts). IsReading f first told read) (sym same_facts) reading) in
      record {
        facts_are = same_facts ∙ starts.0 ∙ ap (λ (n : ℕ). let f : RealmFacts = record facts { boot = n } in f) boot;
        no_lower = subst (λ (n : ℕ). facts.boot ≤ n) boot starts.1;
        held = held;
        opened = opened told here;
        kept = subst (λ (h : List Entry). IsKeptJournal read.account.facts (g.moment journal.log.device) (length h) journal h) (sym entries) (kept told here);
      }
