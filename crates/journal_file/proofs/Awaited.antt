-- A reading of what is a journal of a history comes to that history.
use Rattle.std.proofs.Common.{◌≡◌, ◌≢◌, ◌⊎◌, inl, inr, ℕ, suc, ◌+◌, ◌<◌, ◌≤◌, List, [], ◌∷◌, ◌++◌, length, codes, decimal, Some, Result, Ok, Err, refl, sym, ap, ap₂, subst, ◌∙◌, append_assoc, append-nil, length-append, arith}
use Rattle.std.specs.Prelude.{IfOk, IfErr, MatchResult, All}
use Rattle.hex.specs.Hex.{encode_lower}
use Rattle.kms_names.specs.Identifier.{IsByteList}
use Rattle.account_steps.specs.declared.facts.RealmFacts.{RealmFacts}
use Rattle.account_rows.specs.declared.entries.Entry.{Entry}
use Rattle.account_core.specs.Account.{Account}
use Rattle.account_core.specs.Fitting.{Fits, IsSound}
use Rattle.journal_lines.specs.Cuts.{first_line, behind_line}
use Rattle.journal_lines.specs.Forms.{IsEntry}
use Rattle.journal_lines.specs.Lines.{entry_line}
use Rattle.journal_lines.specs.LineReading.{entry_of}
use Rattle.journal_lines.specs.FrameLines.{end_line, IsEnd}
use Rattle.journal_lines.specs.Frames.{end_in}
use Rattle.journal_lines.proofs.EndFacts.{end_read}
use Rattle.journal_lines.proofs.FrameFacts.{end_told}
use Rattle.journal_lines.proofs.LineReadingFacts.{line_told}
use Rattle.journal_lines.proofs.FeedFacts.{entry_first, entry_behind, end_first, end_behind, not_end}
use Rattle.journal_file.specs.Journal.{entries_text}
use Rattle.journal_file.specs.Faults.{IsExpected, IsWithLine, IsEndFault, right_seal}
use Rattle.journal_file.proofs.SealFacts.{seal_is_bytes}
use Rattle.journal_file.specs.declared.faults.JournalFault.{JournalFault}
use Rattle.journal_file.specs.declared.faults.JournalFault.TheVariants.{NoMemory}

-- ---- what a sound history has at a place

nothing_there : (front : List Entry) (entry : Entry) (more : List Entry) → [] ≡ front ++ entry ∷ more → ⊥
nothing_there front entry more e =
    let size : 0 ≡ length (front ++ entry ∷ more) = ap (λ (h : List Entry). length h) e in
    absurd (omega (arith, size, length-append front (entry ∷ more)))

same_first : (a b : Entry) (xs ys : List Entry) → a ∷ xs ≡ b ∷ ys → (a ≡ b) × (xs ≡ ys)
same_first a b xs ys e = (cc, cc)

split_at : (history : List Entry) (last : Entry) (front : List Entry) (entry : Entry) (more : List Entry) → history ++ last ∷ [] ≡ front ++ entry ∷ more
    → ((history ≡ front) × (last ≡ entry)) ⊎ ((between : List Entry) × (history ≡ front ++ entry ∷ between))
split_at [] last [] entry more e = inl (refl, (same_first last entry [] more e).0)
split_at [] last (x ∷ front) entry more e = absurd (nothing_there front entry more (same_first last x [] (front ++ entry ∷ more) e).1)
split_at (x ∷ history) last [] entry more e = inr (history, ap (λ (y : Entry). y ∷ history) (same_first x entry (history ++ last ∷ []) more e).0)
split_at (x ∷ history) last (y ∷ front) entry more e =
    let parts = same_first x y (history ++ last ∷ []) (front ++ entry ∷ more) e in
    elim (split_at history last front entry more parts.1) [
      | inl done ↦ inl (ap₂ (λ (z : Entry) (h : List Entry). z ∷ h) parts.0 done.0, done.1)
      | inr found ↦ inr (found.0, ap₂ (λ (z : Entry) (h : List Entry). z ∷ h) parts.0 found.1)
    ]

pub fits_at : (facts : RealmFacts) (whole : List Entry) → IsSound facts whole → (front : List Entry) (entry : Entry) (more : List Entry) → whole ≡ front ++ entry ∷ more → Fits facts front entry
fits_at facts _ IsSound.nothing front entry more e = absurd (nothing_there front entry more e)
fits_at facts _ (IsSound.one_more {history} last sound fits) front entry more e = elim (split_at history last front entry more e) [
  | inl done ↦ subst (λ (x : Entry). Fits facts front x) done.1 (subst (λ (h : List Entry). Fits facts h last) done.0 fits)
  | inr found ↦ fits_at facts history sound front entry found.0 found.1
]

form_at : (front : List Entry) (entry : Entry) (more : List Entry) → All IsEntry (front ++ entry ∷ more) → IsEntry entry
form_at [] entry more forms = forms 0 entry (omega arith)
form_at (x ∷ front) entry more forms = form_at front entry more (λ k d lt. forms (suc k) d (omega arith))

-- ---- what is left of it

-- these entries are left of the history, and then its last line
pub record IsAhead (facts : RealmFacts) (boot : ℕ) (history before : List Entry) (rest : List ℕ) : Type 0 where
  pub more : List Entry
  pub is : history ≡ before ++ more
  pub text : rest ≡ entries_text more ++ end_line (length history) (right_seal facts boot history)

some_same : {A : Type 0} (a b : A) → Some a ≡ Some b → a ≡ b
some_same a b e = cc

abbrev IsNoEnd : List ℕ → Type 0
IsNoEnd line = (count : ℕ) (seal : List ℕ) → ¬ (IsEnd line count seal)

-- the last line is at hand: the history has been read
pub record IsDone (facts : RealmFacts) (boot : ℕ) (history before : List Entry) (count : ℕ) (seal behind : List ℕ) : Type 0 where
  pub same : history ≡ before
  pub counted : count ≡ length history
  pub sealed : seal ≡ right_seal facts boot history
  pub alone : behind ≡ []

module _ (facts : RealmFacts) (boot : ℕ) (text : List ℕ) (history : List Entry) (expected : IsExpected facts boot text history) where
  seals : IsByteList 32 (right_seal facts boot history)
  seals = seal_is_bytes facts.root _

  pub begin : (account : Account) → account.entries ≡ [] → IsAhead facts boot history account.entries text
  begin account none = record { more = history; is = ap (λ (h : List Entry). h ++ history) (sym none); text = expected.text }

  end_at : (rest : List ℕ) → rest ≡ entries_text [] ++ end_line (length history) (right_seal facts boot history) → first_line rest ≡ end_line (length history) (right_seal facts boot history)
  end_at rest is =
      let last : List ℕ = end_line (length history) (right_seal facts boot history) in
      ap first_line (is ∙ sym (append-nil last)) ∙ end_first (length history) (right_seal facts boot history) [] expected.few

  entry_at : (rest : List ℕ) (entry : Entry) (more : List Entry) → IsEntry entry → rest ≡ entries_text (entry ∷ more) ++ end_line (length history) (right_seal facts boot history)
      → (first_line rest ≡ entry_line entry) × (behind_line rest ≡ entries_text more ++ end_line (length history) (right_seal facts boot history))
  entry_at rest entry more form is =
      let last : List ℕ = end_line (length history) (right_seal facts boot history) in
      let shape : rest ≡ entry_line entry ++ (entries_text more ++ last) = is ∙ append_assoc (entry_line entry) (entries_text more) last in
      (ap first_line shape ∙ entry_first entry form (entries_text more ++ last), ap behind_line shape ∙ entry_behind entry form (entries_text more ++ last))

  form : (before : List Entry) (entry : Entry) (more : List Entry) → history ≡ before ++ entry ∷ more → IsEntry entry
  form before entry more is = form_at before entry more (subst (λ (h : List Entry). All IsEntry h) is expected.forms)

  step : (before : List Entry) (rest : List ℕ) (more : List Entry) → history ≡ before ++ more → rest ≡ entries_text more ++ end_line (length history) (right_seal facts boot history)
      → IsNoEnd (first_line rest) → (after : List Entry) (entry : Entry) → entry_of (first_line rest) ≡ Some entry → after ≡ before ++ entry ∷ [] → IsAhead facts boot history after (behind_line rest)
  step before rest [] is shape no_end after entry read then =
      absurd (no_end (length history) (right_seal facts boot history) (record { short = expected.few; seals = seals; is = end_at rest shape }))
  step before rest (next ∷ more) is shape no_end after entry read then =
      let formed : IsEntry next = form before next more is in
      let parts = entry_at rest next more formed shape in
      let same : entry ≡ next = some_same entry next (sym read ∙ ap entry_of parts.0 ∙ line_told next formed) in
      record {
        more = more;
        is = is ∙ sym (ap (λ (h : List Entry). h ++ more) then ∙ append_assoc before (entry ∷ []) more ∙ ap (λ (e : Entry). before ++ e ∷ more) same);
        text = parts.1;
      }

  -- one line more is read
  pub step_on : (before : List Entry) (rest : List ℕ) → IsAhead facts boot history before rest → IsNoEnd (first_line rest) → (account after : Account) → account.entries ≡ before
      → IsWithLine account (first_line rest) after → IsAhead facts boot history after.entries (behind_line rest)
  step_on before rest ahead no_end account after same with =
      step before rest ahead.more ahead.is ahead.text no_end after.entries with.entry with.read (with.entries ∙ ap (λ (h : List Entry). h ++ with.entry ∷ []) same)

  stuck : (before : List Entry) (rest : List ℕ) (more : List Entry) → history ≡ before ++ more → rest ≡ entries_text more ++ end_line (length history) (right_seal facts boot history)
      → IsNoEnd (first_line rest) → ((entry : Entry) → IsEntry entry → Fits facts before entry → first_line rest ≢ entry_line entry) → ⊥
  stuck before rest [] is shape no_end no_entry =
      no_end (length history) (right_seal facts boot history) (record { short = expected.few; seals = seals; is = end_at rest shape })
  stuck before rest (next ∷ more) is shape no_end no_entry =
      let formed : IsEntry next = form before next more is in
      no_entry next formed (fits_at facts history expected.sound before next more is) (entry_at rest next more formed shape).0

  -- no line at hand is strange
  pub not_strange : (before : List Entry) (rest : List ℕ) → IsAhead facts boot history before rest → IsNoEnd (first_line rest)
      → ((entry : Entry) → IsEntry entry → Fits facts before entry → first_line rest ≢ entry_line entry) → ⊥
  not_strange before rest ahead no_end no_entry = stuck before rest ahead.more ahead.is ahead.text no_end no_entry

  -- nor does it end early
  pub not_early : (before : List Entry) (rest : List ℕ) → IsAhead facts boot history before rest → length rest ≡ 0 → ⊥
  not_early before rest ahead none =
      let last : List ℕ = end_line (length history) (right_seal facts boot history) in
      let some : length last ≡ 4 + length (decimal (length history) ++ 32 ∷ (encode_lower (right_seal facts boot history) ++ 10 ∷ [])) = length-append (codes "end ") _ in
      let size : length rest ≡ length (entries_text ahead.more ++ last) = ap (λ (t : List ℕ). length t) ahead.text in
      absurd (omega (arith, none, size, some, length-append (entries_text ahead.more) last))

  ended : (before : List Entry) (rest : List ℕ) (more : List Entry) → history ≡ before ++ more → rest ≡ entries_text more ++ end_line (length history) (right_seal facts boot history)
      → (count : ℕ) (seal : List ℕ) → end_in (first_line rest) ≡ Some (count, seal) → IsDone facts boot history before count seal (behind_line rest)
  ended before rest [] is shape count seal read =
      let last : List ℕ = end_line (length history) (right_seal facts boot history) in
      let both : (count, seal) ≡ (length history, right_seal facts boot history) =
      some_same (count, seal) (length history, right_seal facts boot history) (sym read ∙ ap end_in (end_at rest shape) ∙ end_told (length history) (right_seal facts boot history) expected.few seals) in
      record {
        same = is ∙ append-nil before;
        counted = ap (λ (p : ℕ × List ℕ). p.0) both;
        sealed = ap (λ (p : ℕ × List ℕ). p.1) both;
        alone = ap behind_line (shape ∙ sym (append-nil last)) ∙ end_behind (length history) (right_seal facts boot history) [] expected.few;
      }
  ended before rest (next ∷ more) is shape count seal read =
      let parts = entry_at rest next more (form before next more is) shape in
      absurd (not_end next count seal (sym parts.0 ∙ (end_read (first_line rest) (count, seal) read).is))

  no_fault : (account : Account) (count : ℕ) (seal mac behind : List ℕ) → account.facts ≡ facts → mac ≡ right_seal facts boot account.entries → IsDone facts boot history account.entries count seal behind
      → (fault : JournalFault) → IsEndFault account boot mac count seal behind fault → ⊥
  no_fault account count seal mac behind same right_mac done fault (IsEndFault.followed some) =
      let none : length behind ≡ 0 = ap (λ (t : List ℕ). length t) done.alone in absurd (omega (arith, none, some))
  no_fault account count seal mac behind same right_mac done fault (IsEndFault.wrong none other) =
      other (done.counted ∙ ap (λ (h : List Entry). length h) done.same) (done.sealed ∙ ap (right_seal facts boot) done.same ∙ sym right_mac)
  no_fault account count seal mac behind same right_mac done fault (IsEndFault.old none counted sealed low) =
      let lower : boot < facts.boot = expected.lower in
      let high : facts.boot ≤ boot = subst (λ (f : RealmFacts). f.boot ≤ boot) same low in
      absurd (omega (arith, lower, high))

  match : (account : Account) (count : ℕ) (seal mac behind : List ℕ) → account.facts ≡ facts → mac ≡ right_seal facts boot account.entries → IsDone facts boot history account.entries count seal behind
      → (Was : Account → Type 0) → ((a : Account) → Was a → a ≡ account) → (r : Result Account JournalFault) → IfOk r Was → IfErr r (IsEndFault account boot mac count seal behind)
      → MatchResult r (λ a. a.entries ≡ history) (λ fault. fault ≡ NoMemory)
  match account count seal mac behind same right_mac done Was is (Ok a) ok err = ap (λ (b : Account). b.entries) (is a ok) ∙ sym done.same
  match account count seal mac behind same right_mac done Was is (Err fault) ok err = absurd (no_fault account count seal mac behind same right_mac done fault err)

  -- what the last line brings
  pub comes_to : (account : Account) (rest : List ℕ) → IsAhead facts boot history account.entries rest → account.facts ≡ facts
      → (count : ℕ) (seal mac : List ℕ) → end_in (first_line rest) ≡ Some (count, seal) → mac ≡ right_seal facts boot account.entries
      → (Was : Account → Type 0) → ((a : Account) → Was a → a ≡ account) → (r : Result Account JournalFault) → IfOk r Was → IfErr r (IsEndFault account boot mac count seal (behind_line rest))
      → MatchResult r (λ a. a.entries ≡ history) (λ fault. fault ≡ NoMemory)
  comes_to account rest ahead same count seal mac read right_mac Was is r ok err =
      match account count seal mac (behind_line rest) same right_mac (ended account.entries rest ahead.more ahead.is ahead.text count seal read) Was is r ok err
