-- What a reading has come to.
use Rattle.std.proofs.Common.{◌≡◌, ◌≢◌, ℕ, ◌+◌, ◌<◌, ◌≤◌, List, [], ◌∷◌, ◌++◌, length, map, codes, refl, sym, ap, subst, ◌∙◌, append_assoc, append-nil, length-append, arith, ◌-◌}
use Rattle.std.specs.Prelude.{All}
use Rattle.std.proofs.lemmas.List.{length-drop}
use Rattle.std.proofs.lemmas.List.Elements.{All-nil, All-push}
use Rattle.mac_sha.specs.Running.{IsMac}
use Rattle.mac_sha.specs.declared.Mac.{Mac}
use Rattle.account_steps.specs.declared.facts.RealmFacts.{RealmFacts}
use Rattle.account_rows.specs.declared.entries.Entry.{Entry}
use Rattle.account_core.specs.Account.{Account}
use Rattle.account_core.specs.Fitting.{Fits, IsSound}
use Rattle.journal_lines.specs.Cuts.{lines_of, place_of, first_line, behind_line}
use Rattle.journal_lines.specs.Lines.{entry_line}
use Rattle.journal_lines.specs.FrameLines.{head_line, IsEnd}
use Rattle.journal_file.specs.Journal.{entries_text, before_end}
use Rattle.journal_lines.specs.LineReading.{entry_of}
use Rattle.journal_file.specs.Faults.{IsLeft, IsFaultBehind, IsWithLine, IsReadBack}
use Rattle.journal_file.specs.declared.faults.JournalFault.TheVariants.{At}
use Rattle.journal_lines.proofs.CutFacts.{next_line, cut_whole}

-- the account has the entries of the lines before the rest, and the HMAC in the making holds all before the rest
pub record IsSoFar (facts : RealmFacts) (boot : ℕ) (text : List ℕ) (account : Account) (mac : Mac) (rest : List ℕ) : Type 0 where
  pub same : account.facts ≡ facts
  pub sound : IsSound facts account.entries
  pub read : All IsReadBack account.entries
  pub lines : lines_of text ≡ map entry_line account.entries ++ lines_of rest
  pub whole : text ≡ entries_text account.entries ++ rest
  pub few : length account.entries + length rest ≤ length text
  pub holds : IsMac mac facts.root (codes "journal" ++ before_end facts.account facts.region boot account.entries)

pub map-append : (history more : List Entry) → map entry_line (history ++ more) ≡ map entry_line history ++ map entry_line more
map-append [] more = refl
map-append (entry ∷ history) more = ap (λ (lines : List (List ℕ)). entry_line entry ∷ lines) (map-append history more)

pub texts-append : (history more : List Entry) → entries_text (history ++ more) ≡ entries_text history ++ entries_text more
texts-append [] more = refl
texts-append (entry ∷ history) more =
    ap (λ (text : List ℕ). entry_line entry ++ text) (texts-append history more) ∙ sym (append_assoc (entry_line entry) (entries_text history) (entries_text more))

module _ (facts : RealmFacts) (boot : ℕ) (text : List ℕ) where
  pub begun : (account : Account) (mac : Mac) → account.facts ≡ facts → account.entries ≡ [] → IsMac mac facts.root (codes "journal" ++ head_line facts.account facts.region boot)
      → IsSoFar facts boot text account mac text
  begun account mac same none holds =
      let head : List ℕ = head_line facts.account facts.region boot in
      let before : head ≡ before_end facts.account facts.region boot account.entries = sym (append-nil head) ∙ ap (λ (h : List Entry). head ++ entries_text h) (sym none) in
      record {
        same = same;
        sound = subst (IsSound facts) (sym none) IsSound.nothing;
        read = subst (All IsReadBack) (sym none) (All-nil IsReadBack);
        lines = ap (λ (h : List Entry). map entry_line h ++ lines_of text) (sym none);
        whole = ap (λ (h : List Entry). entries_text h ++ text) (sym none);
        few = omega (arith, ap (λ (h : List Entry). length h) none);
        holds = subst (λ (b : List ℕ). IsMac mac facts.root (codes "journal" ++ b)) before holds;
      }

  left_none : (rest : List ℕ) → length rest ≡ 0 → lines_of rest ≡ []
  left_none [] none = refl
  left_none (c ∷ rest) none = absurd (omega arith)

  -- nothing is left
  pub early : (account : Account) (mac : Mac) (rest : List ℕ) → IsSoFar facts boot text account mac rest → length rest ≡ 0
      → IsFaultBehind facts boot text (At (length account.entries + 2))
  early account mac rest so_far none =
      IsFaultBehind.ends_early (record { are = so_far.lines ∙ ap (λ (lines : List (List ℕ)). map entry_line account.entries ++ lines) (left_none rest none); sound = so_far.sound; read = so_far.read })

  -- these lines are left
  pub left : (account : Account) (mac : Mac) (rest : List ℕ) → IsSoFar facts boot text account mac rest → 0 < length rest
      → IsLeft facts text account.entries (first_line rest ∷ lines_of (behind_line rest))
  left account mac rest so_far some = record { are = so_far.lines ∙ ap (λ (lines : List (List ℕ)). map entry_line account.entries ++ lines) (next_line rest some); sound = so_far.sound; read = so_far.read }

  -- the line at hand is none that may come
  pub strange : (account : Account) (mac : Mac) (rest : List ℕ) → IsSoFar facts boot text account mac rest → 0 < length rest
      → ((number : ℕ) (seal : List ℕ) → ¬ (IsEnd (first_line rest) number seal)) → ((entry : Entry) → IsReadBack entry → Fits facts account.entries entry → first_line rest ≢ entry_line entry)
      → IsFaultBehind facts boot text (At (length account.entries + 2))
  strange account mac rest so_far some no_end no_entry = IsFaultBehind.no_entry (left account mac rest so_far some) no_end no_entry

  -- one line more is read
  pub longer : (account : Account) (mac : Mac) (rest : List ℕ) (after : Account) (more : Mac) → IsSoFar facts boot text account mac rest → 0 < length rest → IsWithLine account (first_line rest) after
      → ((key message : List ℕ) → IsMac mac key message → IsMac more key (message ++ first_line rest)) → IsSoFar facts boot text after more (behind_line rest)
  longer account mac rest after more so_far some with added =
      let before : List Entry = account.entries in
      let entry : Entry = with.entry in
      let line : List ℕ = first_line rest in
      let behind : List ℕ = behind_line rest in
      let front : List ℕ = codes "journal" in
      let head : List ℕ = head_line facts.account facts.region boot in
      let is : entry_line entry ≡ line = sym with.is in
      let texts : entries_text after.entries ≡ entries_text before ++ line =
      ap entries_text with.entries ∙ texts-append before (entry ∷ []) ∙ ap (λ (t : List ℕ). entries_text before ++ t) (append-nil (entry_line entry) ∙ is) in
      let listed : map entry_line after.entries ++ lines_of behind ≡ map entry_line before ++ (line ∷ lines_of behind) =
      ap (λ (h : List Entry). map entry_line h ++ lines_of behind) with.entries
      ∙ ap (λ (ls : List (List ℕ)). ls ++ lines_of behind) (map-append before (entry ∷ []))
      ∙ append_assoc (map entry_line before) (entry_line entry ∷ []) (lines_of behind)
      ∙ ap (λ (l : List ℕ). map entry_line before ++ (l ∷ lines_of behind)) is in
      let shorter : length behind ≡ length rest - (place_of 10 rest + 1) = length-drop (place_of 10 rest + 1) rest in
      let size : length after.entries ≡ length before + 1 = ap (λ (h : List Entry). length h) with.entries ∙ length-append before (entry ∷ []) in
      record {
        same = with.facts ∙ so_far.same;
        sound = subst (IsSound facts) (sym with.entries) (IsSound.one_more entry so_far.sound (subst (λ (f : RealmFacts). Fits f before entry) so_far.same with.fits));
        read = subst (All IsReadBack) (sym with.entries) (All-push IsReadBack before entry so_far.read (ap entry_of is ∙ with.read));
        lines = so_far.lines ∙ ap (λ (ls : List (List ℕ)). map entry_line before ++ ls) (next_line rest some) ∙ sym listed;
        whole = so_far.whole ∙ ap (λ (t : List ℕ). entries_text before ++ t) (sym (cut_whole rest)) ∙ sym (append_assoc (entries_text before) line behind)
            ∙ ap (λ (t : List ℕ). t ++ behind) (sym texts);
        few = omega (arith, so_far.few);
        holds = subst (IsMac more facts.root) (append_assoc front (head ++ entries_text before) line
            ∙ ap (λ (t : List ℕ). front ++ t) (append_assoc head (entries_text before) line ∙ ap (λ (t : List ℕ). head ++ t) (sym texts)))
            (added facts.root (front ++ (head ++ entries_text before)) so_far.holds);
      }
