-- A text is one history's, or has one first fault.
use Rattle.std.proofs.Common.{◌≡◌, ◌≢◌, ◌⊎◌, inl, inr, ℕ, suc, ◌+◌, ◌<◌, ◌≤◌, ◌^◌, Bool, true, false, cond, nat_lt, List, [], ◌∷◌, ◌++◌, length, map, codes, decimal, Option, Some, None, Result, Ok, Err, refl, sym, ap, ap₂, subst, ◌∙◌, append_assoc, append-nil, length-append, lit≤, arith}
use Rattle.std.specs.Prelude.{All, ◌==◌, ◌&&◌, if◌then◌else◌}
use Rattle.std.specs.Str.{bytes_eq}
use Rattle.std.proofs.lemmas.Bool.{cases_lt, cases_eq, and_parts, lt-ltb, ltb-true, eqb-true, eq-eqb}
use Rattle.std.proofs.lemmas.List.{append_cancel_left}
use Rattle.std.proofs.lemmas.List.Elements.{All-nil, All-push}
use Rattle.std.proofs.lemmas.Slice.Eq.{bytes_eq-Decides}
use Rattle.hex.specs.Hex.{encode_lower}
use Rattle.kms_names.specs.Moment.{year_10000}
use Rattle.account_steps.specs.declared.facts.RealmFacts.{RealmFacts}
use Rattle.account_steps.specs.Parts.{overfull}
use Rattle.account_rows.specs.declared.entries.Entry.{Entry}
use Rattle.account_rows.specs.History.{replay, latest_of, is_made_here, tags_fit}
use Rattle.account_core.specs.Account.{Account}
use Rattle.account_core.specs.Fitting.{Fits, IsSound, is_there, is_formed, is_dated, view_at}
use Rattle.journal_lines.specs.Cuts.{lines_of, first_line, behind_line}
use Rattle.journal_lines.specs.Forms.{IsEntry}
use Rattle.journal_lines.specs.FrameLines.{head_line, end_line, IsEnd}
use Rattle.journal_lines.specs.Frames.{head_in, end_in}
use Rattle.journal_lines.specs.LineReading.{entry_of}
use Rattle.journal_lines.specs.Lines.{entry_line}
use Rattle.journal_lines.proofs.CutFacts.{next_line, cut_whole}
use Rattle.journal_lines.proofs.EndFacts.{end_read, no_end}
use Rattle.journal_lines.proofs.FeedFacts.{entry_first, entry_behind, end_first, end_behind, not_end}
use Rattle.journal_lines.proofs.FrameFacts.{head_told, head_is, end_told}
use Rattle.journal_lines.proofs.LineReadingFacts.{line_is}
use Rattle.journal_file.specs.Journal.{entries_text, text_under}
use Rattle.journal_file.specs.Faults.{IsFault, IsFaultBehind, IsLeft, IsReadBack, IsReadOf, right_seal}
use Rattle.journal_file.specs.declared.faults.JournalFault.{JournalFault}
use Rattle.journal_file.specs.declared.faults.JournalFault.TheVariants.{At, OldBoot, NoMemory}
use Rattle.journal_file.proofs.Awaited.{fits_at}
use Rattle.journal_file.proofs.HeadReading.{no_head, journal_is}
use Rattle.journal_file.proofs.ReadFacts.{no_line, read_is}
use Rattle.journal_file.proofs.ReadingSoFar.{map-append, texts-append}
use Rattle.journal_file.proofs.SealFacts.{seal_is_bytes}
use Rattle.journal_laws.specs.Laws.{IsTextOf, IsFirstFault, IsJudgedOnce, JournalsAreJudgedOnce}
use Rattle.journal_laws.proofs.ReadForms.{read_formed}
use Rattle.journal_laws.proofs.ReadingBack.{few_entries}

abbrev IsNoEnd : List ℕ → Type 0
IsNoEnd line = (number : ℕ) (seal : List ℕ) → ¬ (IsEnd line number seal)

same_some : {A : Type 0} (a b : A) → Some a ≡ Some b → a ≡ b
same_some a b e = cc

heads : {A : Type 0} (a b : A) (xs ys : List A) → a ∷ xs ≡ b ∷ ys → (a ≡ b) × (xs ≡ ys)
heads a b xs ys e = (cc, cc)

no_head_here : {A : Type 0} (a : A) (xs : List A) → [] ≡ a ∷ xs → ⊥
no_head_here a xs e = cc

-- two entries that are read back and have one line are one
one_read : (a b : Entry) → IsReadBack a → IsReadBack b → entry_line a ≡ entry_line b → a ≡ b
one_read a b read back e = same_some a b (sym read ∙ ap entry_of e ∙ back)

one_end : (line : List ℕ) (number count : ℕ) (seal other : List ℕ) → IsEnd line number seal → IsEnd line count other → (number ≡ count) × (seal ≡ other)
one_end line number count seal other is also =
    let both : (number, seal) ≡ (count, other) =
    same_some (number, seal) (count, other) (sym (end_told number seal is.short is.seals) ∙ ap end_in (sym is.is ∙ also.is) ∙ end_told count other also.short also.seals) in
    (ap (λ (p : ℕ × List ℕ). p.0) both, ap (λ (p : ℕ × List ℕ). p.1) both)

-- ---- where a reading stops

-- the lines don't begin with that of an entry that is read back and fits
abbrev Stops : RealmFacts → List Entry → List (List ℕ) → Type 0
Stops facts history lines = (entry : Entry) (more : List (List ℕ)) → IsReadBack entry → Fits facts history entry → lines ≢ entry_line entry ∷ more

module _ (facts : RealmFacts) where
  seam : (front : List Entry) (entry : Entry) (history : List Entry) → front ++ entry ∷ history ≡ (front ++ entry ∷ []) ++ history
  seam front entry history = sym (append_assoc front (entry ∷ []) history)

  goes_by : (front : List Entry) (entry : Entry) (other : List Entry) (lines more : List (List ℕ)) → IsSound facts (front ++ entry ∷ other) → IsReadBack entry
      → Stops facts (front ++ []) lines → lines ≡ entry_line entry ∷ more → ⊥
  goes_by front entry other lines more sound back stops e =
      stops entry more back (subst (λ (h : List Entry). Fits facts h entry) (sym (append-nil front)) (fits_at facts (front ++ entry ∷ other) sound front entry other refl)) e

  -- two readings of the same lines stop at one place
  one_place : (front history other : List Entry) (lines more : List (List ℕ)) → IsSound facts (front ++ history) → IsSound facts (front ++ other) → All IsReadBack history → All IsReadBack other
      → Stops facts (front ++ history) lines → Stops facts (front ++ other) more → map entry_line history ++ lines ≡ map entry_line other ++ more → (history ≡ other) × (lines ≡ more)
  one_place front [] [] lines more sound also read back stops halts e = (refl, e)
  one_place front [] (next ∷ other) lines more sound also read back stops halts e =
      absurd (goes_by front next other lines (map entry_line other ++ more) also (back 0 next (omega arith)) stops e)
  one_place front (entry ∷ history) [] lines more sound also read back stops halts e =
      absurd (goes_by front entry history more (map entry_line history ++ lines) sound (read 0 entry (omega arith)) halts (sym e))
  one_place front (entry ∷ history) (next ∷ other) lines more sound also read back stops halts e =
      let parts = heads (entry_line entry) (entry_line next) (map entry_line history ++ lines) (map entry_line other ++ more) e in
      let same : entry ≡ next = one_read entry next (read 0 entry (omega arith)) (back 0 next (omega arith)) parts.0 in
      let here : front ++ next ∷ other ≡ (front ++ entry ∷ []) ++ other = ap (λ (x : Entry). front ++ x ∷ other) (sym same) ∙ seam front entry other in
      let rest = one_place (front ++ entry ∷ []) history other lines more (subst (IsSound facts) (seam front entry history) sound) (subst (IsSound facts) here also)
      (λ k d lt. read (suc k) d (omega arith)) (λ k d lt. back (suc k) d (omega arith))
      (subst (λ (h : List Entry). Stops facts h lines) (seam front entry history) stops) (subst (λ (h : List Entry). Stops facts h more) here halts) parts.1 in
      (ap₂ (λ (x : Entry) (h : List Entry). x ∷ h) same rest.0, rest.1)

-- ---- what a reading comes to

abbrev Answer : Type 0
Answer = Result (List Entry) JournalFault

abbrev taken : List Entry → Answer
taken history = Ok history

abbrev refused : JournalFault → Answer
refused fault = Err fault

-- where all is right, by the boot numbers
abbrev by_boots : RealmFacts → ℕ → List Entry → Answer
by_boots facts boot history = if nat_lt boot facts.boot then Ok history else Err OldBoot

-- by what its last line says, and what follows that
abbrev comes_by : RealmFacts → ℕ → List Entry → Option (ℕ × List ℕ) → List (List ℕ) → Answer
comes_by facts boot history None behind = Err (At (length history + 2))
comes_by facts boot history (Some end) (next ∷ lines) = Err (At (length history + 3))
comes_by facts boot history (Some end) [] =
    if (end.0 == length history) && bytes_eq end.1 (right_seal facts boot history) then by_boots facts boot history else Err (At (length history + 2))

-- by the lines that are left
abbrev comes : RealmFacts → ℕ → List Entry → List (List ℕ) → Answer
comes facts boot history [] = Err (At (length history + 2))
comes facts boot history (line ∷ behind) = comes_by facts boot history (end_in line) behind

-- a first line of these facts, entries that are read back and fit, and lines with which the reading stops
record Outcome (facts : RealmFacts) (bytes : List ℕ) (answer : Answer) : Type 0 where
  boot : ℕ
  rest : List ℕ
  small : boot < 2 ^ 32
  is : bytes ≡ head_line facts.account facts.region boot ++ rest
  history : List Entry
  lines : List (List ℕ)
  left : IsLeft facts rest history lines
  stops : Stops facts history lines
  so : comes facts boot history lines ≡ answer

one_head : (facts : RealmFacts) (bytes : List ℕ) (boot number : ℕ) (rest more : List ℕ) → boot < 2 ^ 32 → number < 2 ^ 32
    → bytes ≡ head_line facts.account facts.region boot ++ rest → bytes ≡ head_line facts.account facts.region number ++ more → (boot ≡ number) × (rest ≡ more)
one_head facts bytes boot number rest more small low is also =
    let both : (boot, rest) ≡ (number, more) =
    same_some (boot, rest) (number, more) (sym (head_told facts.account facts.region boot rest small) ∙ ap (head_in facts.account facts.region) (sym is ∙ also)
    ∙ head_told facts.account facts.region number more low) in
    (ap (λ (p : ℕ × List ℕ). p.0) both, ap (λ (p : ℕ × List ℕ). p.1) both)

one_outcome : (facts : RealmFacts) (bytes : List ℕ) (answer other : Answer) → Outcome facts bytes answer → Outcome facts bytes other → answer ≡ other
one_outcome facts bytes answer other one two =
    let head = one_head facts bytes one.boot two.boot one.rest two.rest one.small two.small one.is two.is in
    let place = one_place facts [] one.history two.history one.lines two.lines one.left.sound two.left.sound one.left.read two.left.read one.stops two.stops
    (sym one.left.are ∙ ap lines_of head.1 ∙ two.left.are) in
    sym one.so ∙ ap (λ (boot : ℕ). comes facts boot one.history one.lines) head.0
    ∙ ap₂ (λ (history : List Entry) (lines : List (List ℕ)). comes facts two.boot history lines) place.0 place.1 ∙ two.so

if_true : {A : Type 0} (b : Bool) (x y : A) → b ≡ true → cond b x y ≡ x
if_true true x y e = refl
if_true false x y e = cc

if_false : {A : Type 0} (b : Bool) (x y : A) → ¬ (b ≡ true) → cond b x y ≡ y
if_false true x y never = absurd (never refl)
if_false false x y never = refl

both_true : (a b : Bool) → a ≡ true → b ≡ true → (a && b) ≡ true
both_true a b p q = ap₂ (λ (x y : Bool). x && y) p q

no_end_of : (line : List ℕ) → IsNoEnd line → (found : Option (ℕ × List ℕ)) → end_in line ≡ found → end_in line ≡ None
no_end_of line none None e = e
no_end_of line none (Some end) e = absurd (none end.0 end.1 (end_read line end e))

end_of : (line : List ℕ) (number : ℕ) (seal : List ℕ) → IsEnd line number seal → end_in line ≡ Some (number, seal)
end_of line number seal end = ap end_in end.is ∙ end_told number seal end.short end.seals

-- a last line is no entry's
ended : (facts : RealmFacts) (history : List Entry) (line : List ℕ) (lines : List (List ℕ)) (number : ℕ) (seal : List ℕ) → IsEnd line number seal → Stops facts history (line ∷ lines)
ended facts history line lines number seal end entry more back fits e =
    not_end entry number seal (sym (heads line (entry_line entry) lines more e).0 ∙ end.is)

-- ---- the lines of a text that a history has

last_some : (number : ℕ) (seal : List ℕ) → 0 < length (end_line number seal)
last_some number seal =
    let size : length (end_line number seal) ≡ 4 + length (decimal number ++ 32 ∷ (encode_lower seal ++ 10 ∷ [])) = length-append (codes "end ") _ in omega (arith, size)

form_of : (entry : Entry) → IsReadBack entry → IsEntry entry
form_of entry back = read_formed (entry_line entry) entry back

lines_so : (history : List Entry) (number : ℕ) (seal : List ℕ) → number < 10 ^ 18 → All IsReadBack history
    → lines_of (entries_text history ++ end_line number seal) ≡ map entry_line history ++ end_line number seal ∷ []
lines_so [] number seal few read =
    let last : List ℕ = end_line number seal in
    next_line last (last_some number seal)
    ∙ ap₂ (λ (line text : List ℕ). line ∷ lines_of text) (ap first_line (sym (append-nil last)) ∙ end_first number seal [] few) (ap behind_line (sym (append-nil last)) ∙ end_behind number seal [] few)
lines_so (entry ∷ history) number seal few read =
    let last : List ℕ = end_line number seal in
    let rest : List ℕ = entries_text history ++ last in
    let form : IsEntry entry = form_of entry (read 0 entry (omega arith)) in
    let some : 0 < length (entry_line entry ++ rest) =
    omega (arith, length-append (entry_line entry) rest, length-append (entries_text history) last, last_some number seal) in
    ap lines_of (append_assoc (entry_line entry) (entries_text history) last)
    ∙ next_line (entry_line entry ++ rest) some
    ∙ ap₂ (λ (line text : List ℕ). line ∷ lines_of text) (entry_first entry form rest) (entry_behind entry form rest)
    ∙ ap (λ (lines : List (List ℕ)). entry_line entry ∷ lines) (lines_so history number seal few (λ k d lt. read (suc k) d (omega arith)))

module _ (facts : RealmFacts) (bytes : List ℕ) (boot : ℕ) (rest : List ℕ) (small : boot < 2 ^ 32) (is : bytes ≡ head_line facts.account facts.region boot ++ rest) where
  -- a history, and a last line that is right
  module _ (history : List Entry) (sound : IsSound facts history) (read : All IsReadBack history)
      (text : rest ≡ entries_text history ++ end_line (length history) (right_seal facts boot history)) where
    few : length history < 10 ^ 18
    few = let most : length history ≤ 1000000 = few_entries facts history sound in let top : 1000001 ≤ 10 ^ 18 = lit≤ tt in omega arith

    end : IsEnd (end_line (length history) (right_seal facts boot history)) (length history) (right_seal facts boot history)
    end = record { short = few; seals = seal_is_bytes facts.root _; is = refl }

    is_right : (length history == length history) && bytes_eq (right_seal facts boot history) (right_seal facts boot history) ≡ true
    is_right = both_true _ _ (eq-eqb (length history) (length history) refl) ((bytes_eq-Decides (right_seal facts boot history) (right_seal facts boot history)).1 refl)

    by_boot : comes facts boot history (end_line (length history) (right_seal facts boot history) ∷ []) ≡ by_boots facts boot history
    by_boot =
        ap (λ (found : Option (ℕ × List ℕ)). comes_by facts boot history found []) (end_of (end_line (length history) (right_seal facts boot history)) (length history) (right_seal facts boot history) end)
        ∙ if_true _ _ _ is_right

    right : (answer : Answer) → by_boots facts boot history ≡ answer → Outcome facts bytes answer
    right answer so = record {
      boot = boot;
      rest = rest;
      small = small;
      is = is;
      history = history;
      lines = end_line (length history) (right_seal facts boot history) ∷ [];
      left = record { are = ap lines_of text ∙ lines_so history (length history) (right_seal facts boot history) few read; sound = sound; read = read };
      stops = ended facts history _ [] (length history) (right_seal facts boot history) end;
      so = by_boot ∙ so;
    }

  -- a history, and lines with which its reading stops
  stopped : (history : List Entry) (lines : List (List ℕ)) (answer : Answer) → IsLeft facts rest history lines → Stops facts history lines
      → comes facts boot history lines ≡ answer → Outcome facts bytes answer
  stopped history lines answer left stops so = record { boot = boot; rest = rest; small = small; is = is; history = history; lines = lines; left = left; stops = stops; so = so }

  behind_head : (text : List ℕ) → head_line facts.account facts.region boot ++ rest ≡ head_line facts.account facts.region boot ++ text → rest ≡ text
  behind_head text e = append_cancel_left (head_line facts.account facts.region boot) rest text e

  not_lower : (history : List Entry) → facts.boot ≤ boot → by_boots facts boot history ≡ Err OldBoot
  not_lower history high = if_false (nat_lt boot facts.boot) _ _ (λ e. let low = ltb-true boot facts.boot e in absurd (omega arith))

  fault_outcome : (fault : JournalFault) → IsFaultBehind facts boot rest fault → Outcome facts bytes (Err fault)
  unfolding text_under
  fault_outcome _ (IsFaultBehind.ends_early {history} left) =
      stopped history [] _ left (λ entry more back fits e. no_head_here (entry_line entry) more e) refl
  fault_outcome _ (IsFaultBehind.no_entry {history} {line} {lines} left none no_entry) =
      stopped history (line ∷ lines) _ left (λ entry more back fits e. no_entry entry back fits (heads line (entry_line entry) lines more e).0)
      (ap (λ (found : Option (ℕ × List ℕ)). comes_by facts boot history found lines) (no_end_of line none (end_in line) refl))
  fault_outcome _ (IsFaultBehind.goes_on {history} {line} {next} {lines} number seal left end) =
      stopped history (line ∷ next ∷ lines) _ left (ended facts history line (next ∷ lines) number seal end)
      (ap (λ (found : Option (ℕ × List ℕ)). comes_by facts boot history found (next ∷ lines)) (end_of line number seal end))
  fault_outcome _ (IsFaultBehind.wrong_end {history} {line} number seal left end other) =
      stopped history (line ∷ []) _ left (ended facts history line [] number seal end)
      (ap (λ (found : Option (ℕ × List ℕ)). comes_by facts boot history found []) (end_of line number seal end)
      ∙ if_false _ _ _ (λ e. let both = and_parts (number == length history) (bytes_eq seal (right_seal facts boot history)) e in
      other (eqb-true number (length history) both.0) ((bytes_eq-Decides seal (right_seal facts boot history)).0 both.1)))
  fault_outcome _ (IsFaultBehind.old_boot {history} sound read whole high) =
      right history sound read (behind_head _ (whole ∙ append_assoc (head_line facts.account facts.region boot) (entries_text history) _)) _ (not_lower history high)

text_outcome : (facts : RealmFacts) (bytes : List ℕ) (history : List Entry) → facts.boot < 2 ^ 32 → IsTextOf facts bytes history → Outcome facts bytes (Ok history)
unfolding text_under
text_outcome facts bytes history small is =
    let journal = is.journal in
    let lower : journal.boot < facts.boot = journal.lower in
    right facts bytes journal.boot _ (omega (arith, small, lower)) (journal.text ∙ append_assoc (head_line facts.account facts.region journal.boot) (entries_text history) _)
    history journal.sound is.read refl _ (if_true (nat_lt journal.boot facts.boot) _ _ (lt-ltb journal.boot facts.boot lower))

same_fault : (fault other : JournalFault) → refused fault ≡ refused other → fault ≡ other
same_fault fault other e = cc

same_history : (history other : List Entry) → taken history ≡ taken other → history ≡ other
same_history history other e = cc

taken_or_refused : (history : List Entry) (fault : JournalFault) → taken history ≡ refused fault → ⊥
taken_or_refused history fault e = cc

one_fault : (facts : RealmFacts) (bytes : List ℕ) (fault other : JournalFault) → fault ≢ NoMemory → other ≢ NoMemory → IsFault facts bytes fault → IsFault facts bytes other → fault ≡ other
one_fault facts bytes _ other own also IsFault.no_memory second = absurd (own refl)
one_fault facts bytes fault _ own also first IsFault.no_memory = absurd (also refl)
one_fault facts bytes _ _ own also (IsFault.no_head none) (IsFault.no_head never) = refl
one_fault facts bytes _ _ own also (IsFault.no_head none) (IsFault.behind boot rest small is behind) = absurd (none boot rest small is)
one_fault facts bytes _ _ own also (IsFault.behind boot rest small is behind) (IsFault.no_head none) = absurd (none boot rest small is)
one_fault facts bytes fault other own also (IsFault.behind boot rest small is behind) (IsFault.behind number more low too after) =
    same_fault fault other (one_outcome facts bytes (Err fault) (Err other) (fault_outcome facts bytes boot rest small is fault behind) (fault_outcome facts bytes number more low too other after))

-- what is the text of a history has no fault
apart_from : (facts : RealmFacts) (bytes : List ℕ) (history : List Entry) (fault : JournalFault) → facts.boot < 2 ^ 32 → IsTextOf facts bytes history → fault ≢ NoMemory → IsFault facts bytes fault → ⊥
unfolding text_under
apart_from facts bytes history _ small is own IsFault.no_memory = own refl
apart_from facts bytes history _ small is own (IsFault.no_head none) =
    let journal = is.journal in
    let lower : journal.boot < facts.boot = journal.lower in
    none journal.boot _ (omega (arith, small, lower)) (journal.text ∙ append_assoc (head_line facts.account facts.region journal.boot) (entries_text history) _)
apart_from facts bytes history fault small is own (IsFault.behind boot rest low head behind) =
    taken_or_refused history fault (one_outcome facts bytes (Ok history) (Err fault) (text_outcome facts bytes history small is) (fault_outcome facts bytes boot rest low head fault behind))

-- ---- that an entry fits is decided

abbrev Decided : Type 0 → Type 0
Decided A = A ⊎ ¬ A

is_so : (b : Bool) → Decided (b ≡ true)
is_so true = inl refl
is_so false = inr (λ e. cc)

is_none_so : {A : Type 0} (o : Option A) → Decided (o ≡ None)
is_none_so None = inl refl
is_none_so (Some a) = inr (λ e. cc)

is_most : (m n : ℕ) → Decided (m ≤ n)
is_most m n = elim (cases_lt n m) [ inl above ↦ inr (λ most. omega arith) | inr most ↦ inl most ]

and_so : {A B : Type 0} → Decided A → Decided B → Decided (A × B)
and_so (inl a) (inl b) = inl (a, b)
and_so (inl a) (inr never) = inr (λ both. never both.1)
and_so (inr never) second = inr (λ both. never both.0)

by_parts : {A B : Type 0} → (A → B) → (B → A) → Decided A → Decided B
by_parts to from (inl a) = inl (to a)
by_parts to from (inr never) = inr (λ b. never (from b))

fits_or_not : (facts : RealmFacts) (history : List Entry) (entry : Entry) → Decided (Fits facts history entry)
fits_or_not facts history entry =
    by_parts
    (λ parts. record {
      later = parts.0;
      bound = parts.1.0;
      made = parts.1.1.0;
      placed = record { there = parts.1.1.1.0; left = parts.1.1.1.1.0 };
      formed = parts.1.1.1.1.1.0;
      dated = parts.1.1.1.1.1.1.0;
      tagged = parts.1.1.1.1.1.1.1;
    })
    (λ fits. (fits.later, (fits.bound, (fits.made, (fits.placed.there, (fits.placed.left, (fits.formed, (fits.dated, fits.tagged))))))))
    (and_so (is_most (latest_of history) entry.time)
    (and_so (is_most (suc entry.time) year_10000)
    (and_so (is_so (is_made_here (length history) entry.what))
    (and_so (is_so (is_there (view_at facts history entry.time) entry.what))
    (and_so (is_none_so (overfull (view_at facts history entry.time) entry.what))
    (and_so (is_so (is_formed entry.what)) (and_so (is_so (is_dated entry.time entry.what)) (is_so (tags_fit (replay history).keys entry.what)))))))))

-- ---- each text comes to something

no_lines : (text : List ℕ) → lines_of text ≡ [] → text ≡ []
no_lines [] none = refl
no_lines (c ∷ text) none = absurd (no_head_here _ _ (sym none ∙ next_line (c ∷ text) (omega arith)))

some_text : (text line : List ℕ) (lines : List (List ℕ)) → lines_of text ≡ line ∷ lines → 0 < length text
some_text [] line lines e = absurd (no_head_here line lines e)
some_text (c ∷ text) line lines e = omega arith

module _ (facts : RealmFacts) (boot : ℕ) (text : List ℕ) where
  -- the lines before the rest are those of these entries
  record IsHere (history : List Entry) (rest : List ℕ) : Type 0 where
    sound : IsSound facts history
    read : All IsReadBack history
    lines : lines_of text ≡ map entry_line history ++ lines_of rest
    whole : text ≡ entries_text history ++ rest

  abbrev Judged : Type 0
  Judged = ((account : Account) × IsReadOf facts boot text account) ⊎ ((fault : JournalFault) × IsFaultBehind facts boot text fault)

  fault_at : (fault : JournalFault) → IsFaultBehind facts boot text fault → Judged
  fault_at fault is = inr (fault, is)

  module _ (history : List Entry) (rest line : List ℕ) (lines : List (List ℕ)) (is : lines_of rest ≡ line ∷ lines) (here : IsHere history rest) where
    cut : first_line rest ∷ lines_of (behind_line rest) ≡ line ∷ lines
    cut = sym (next_line rest (some_text rest line lines is)) ∙ is

    first : first_line rest ≡ line
    first = (heads (first_line rest) line (lines_of (behind_line rest)) lines cut).0

    behind : lines_of (behind_line rest) ≡ lines
    behind = (heads (first_line rest) line (lines_of (behind_line rest)) lines cut).1

    cut_rest : rest ≡ line ++ behind_line rest
    cut_rest = sym (cut_whole rest) ∙ ap (λ (l : List ℕ). l ++ behind_line rest) first

    left : IsLeft facts text history (line ∷ lines)
    left = record { are = here.lines ∙ ap (λ (ls : List (List ℕ)). map entry_line history ++ ls) is; sound = here.sound; read = here.read }

    strange : IsNoEnd line → ((entry : Entry) → IsReadBack entry → Fits facts history entry → line ≢ entry_line entry) → Judged
    strange none no_entry = fault_at (At (length history + 2)) (IsFaultBehind.no_entry left none no_entry)

    -- one line more is an entry's
    longer : (entry : Entry) → entry_of line ≡ Some entry → Fits facts history entry → IsHere (history ++ entry ∷ []) (behind_line rest)
    longer entry read fits =
        let line_so : line ≡ entry_line entry = line_is line entry read in
        let back : IsReadBack entry = ap entry_of (sym line_so) ∙ read in
        let listed : map entry_line (history ++ entry ∷ []) ++ lines_of (behind_line rest) ≡ map entry_line history ++ (line ∷ lines) =
        ap₂ (λ (one two : List (List ℕ)). one ++ two) (map-append history (entry ∷ [])) behind ∙ append_assoc (map entry_line history) (entry_line entry ∷ []) lines
        ∙ ap (λ (l : List ℕ). map entry_line history ++ (l ∷ lines)) (sym line_so) in
        let written : entries_text (history ++ entry ∷ []) ≡ entries_text history ++ line =
        texts-append history (entry ∷ []) ∙ ap (λ (t : List ℕ). entries_text history ++ t) (append-nil (entry_line entry) ∙ sym line_so) in
        record {
          sound = IsSound.one_more entry here.sound fits;
          read = All-push IsReadBack history entry here.read back;
          lines = left.are ∙ sym listed;
          whole = here.whole ∙ ap (λ (t : List ℕ). entries_text history ++ t) cut_rest ∙ sym (append_assoc (entries_text history) line (behind_line rest))
              ∙ ap (λ (t : List ℕ). t ++ behind_line rest) (sym written);
        }

    at_entry : ((entry : Entry) → IsHere (history ++ entry ∷ []) (behind_line rest) → Judged) → IsNoEnd line → (found : Option Entry) → entry_of line ≡ found → Judged
    at_entry next none None e = strange none (λ entry back fits. no_line line None (sym e) refl entry back)
    at_entry next none (Some entry) e = elim (fits_or_not facts history entry) [
      | inl fits ↦ next entry (longer entry e fits)
      | inr never ↦ strange none (λ other back fits same.
          never (subst (λ (x : Entry). Fits facts history x) (sym (read_is line (Some entry) entry (sym e) refl other back same)) fits))
    ]

    -- the line at hand is a last line, and the last
    at_right : (number : ℕ) (seal : List ℕ) → IsEnd line number seal → lines ≡ [] → number ≡ length history → seal ≡ right_seal facts boot history → Judged
    unfolding text_under
    at_right number seal end none counted sealed =
        let head : List ℕ = head_line facts.account facts.region boot in
        let last : List ℕ = end_line (length history) (right_seal facts boot history) in
        let alone : rest ≡ last =
        cut_rest ∙ ap (λ (t : List ℕ). line ++ t) (no_lines (behind_line rest) (behind ∙ none)) ∙ append-nil line ∙ end.is ∙ ap₂ end_line counted sealed in
        let is_text : text ≡ entries_text history ++ last = here.whole ∙ ap (λ (t : List ℕ). entries_text history ++ t) alone in
        elim (cases_lt boot facts.boot) [
          | inl lower ↦ inl (record { facts = facts; entries = history }, record { same = refl; lower = lower; sound = here.sound; read = here.read; text = is_text })
          | inr high ↦ fault_at OldBoot (IsFaultBehind.old_boot here.sound here.read
              (ap (λ (t : List ℕ). head ++ t) is_text ∙ sym (append_assoc head (entries_text history) last)) high)
        ]

    wrong : (number : ℕ) (seal : List ℕ) → IsEnd line number seal → lines ≡ [] → (number ≡ length history → seal ≢ right_seal facts boot history) → Judged
    wrong number seal end none other =
        fault_at (At (length history + 2)) (IsFaultBehind.wrong_end number seal (subst (λ (ls : List (List ℕ)). IsLeft facts text history (line ∷ ls)) none left) end other)

    at_end : (number : ℕ) (seal : List ℕ) → IsEnd line number seal → (ls : List (List ℕ)) → lines ≡ ls → Judged
    at_end number seal end [] none = elim (cases_eq number (length history)) [
      | inl counted ↦ elim (is_so (bytes_eq seal (right_seal facts boot history))) [
        | inl same ↦ at_right number seal end none counted ((bytes_eq-Decides seal (right_seal facts boot history)).0 same)
        | inr never ↦ wrong number seal end none (λ also sealed. never ((bytes_eq-Decides seal (right_seal facts boot history)).1 sealed))
      ]
      | inr never ↦ wrong number seal end none (λ counted. absurd (never counted))
    ]
    at_end number seal end (next ∷ more) some =
        fault_at (At (length history + 3)) (IsFaultBehind.goes_on number seal (subst (λ (ls : List (List ℕ)). IsLeft facts text history (line ∷ ls)) some left) end)

    at_line : ((entry : Entry) → IsHere (history ++ entry ∷ []) (behind_line rest) → Judged) → (found : Option (ℕ × List ℕ)) → end_in line ≡ found → Judged
    at_line next None e = at_entry next (no_end line e) (entry_of line) refl
    at_line next (Some end) e = at_end end.0 end.1 (end_read line end e) lines refl

  judge : (lines : List (List ℕ)) (history : List Entry) (rest : List ℕ) → lines_of rest ≡ lines → IsHere history rest → Judged
  judge [] history rest none here =
      fault_at (At (length history + 2)) (IsFaultBehind.ends_early (record {
        are = here.lines ∙ ap (λ (ls : List (List ℕ)). map entry_line history ++ ls) none;
        sound = here.sound;
        read = here.read;
      }))
  judge (line ∷ lines) history rest is here =
      at_line history rest line lines is here (λ entry more. judge lines (history ++ entry ∷ []) (behind_line rest) (behind history rest line lines is here) more) (end_in line) refl

  judged : Judged
  judged = judge (lines_of text) [] text refl (record { sound = IsSound.nothing; read = All-nil IsReadBack; lines = refl; whole = refl })

own_fault : (facts : RealmFacts) (boot : ℕ) (rest : List ℕ) (fault : JournalFault) → IsFaultBehind facts boot rest fault → fault ≢ NoMemory
own_fault facts boot rest _ (IsFaultBehind.ends_early left) e = cc
own_fault facts boot rest _ (IsFaultBehind.no_entry left none no_entry) e = cc
own_fault facts boot rest _ (IsFaultBehind.goes_on number seal left end) e = cc
own_fault facts boot rest _ (IsFaultBehind.wrong_end number seal left end other) e = cc
own_fault facts boot rest _ (IsFaultBehind.old_boot sound read whole high) e = cc

at_not_memory : (line : ℕ) → At line ≢ NoMemory
at_not_memory line e = cc

module _ (facts : RealmFacts) (bytes : List ℕ) where
  abbrev Either : Type 0
  Either = ((history : List Entry) × IsTextOf facts bytes history) ⊎ ((fault : JournalFault) × IsFirstFault facts bytes fault)

  of_rest : (boot : ℕ) (rest : List ℕ) → boot < 2 ^ 32 → bytes ≡ head_line facts.account facts.region boot ++ rest → Either
  of_rest boot rest small is = elim (judged facts boot rest) [
    | inl found ↦ inl (found.0.entries, record { journal = (journal_is facts bytes boot rest small is found.0 found.1).1; read = found.1.read })
    | inr found ↦ inr (found.0, record { is = IsFault.behind boot rest small is found.1; own = own_fault facts boot rest found.0 found.1 })
  ]

  of_head : (found : Option (ℕ × List ℕ)) → head_in facts.account facts.region bytes ≡ found → Either
  of_head None none = inr (At 1, record { is = IsFault.no_head (no_head facts bytes none); own = at_not_memory 1 })
  of_head (Some found) e = let head = head_is facts.account facts.region bytes found e in of_rest found.0 found.1 head.0 head.1

pub each_judged_once : JournalsAreJudgedOnce
each_judged_once facts bytes = record {
  one = λ small history other is also. same_history history other (one_outcome facts bytes (Ok history) (Ok other) (text_outcome facts bytes history small is) (text_outcome facts bytes other small also));
  first = λ fault other one two. one_fault facts bytes fault other one.own two.own one.is two.is;
  either = of_head facts bytes (head_in facts.account facts.region bytes) refl;
  apart = λ small history fault is first. apart_from facts bytes history fault small is first.own first.is;
}
