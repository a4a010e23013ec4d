-- A text tells its account, its region, its boot number and its entries.
use Rattle.std.proofs.Common.{◌≡◌, ◌≢◌, ℕ, suc, ◌<◌, ◌^◌, Bool, true, not, List, [], ◌∷◌, ◌++◌, length, get_or, codes, decimal, Some, refl, sym, ap, ap₂, ◌∙◌, append_assoc, arith}
use Rattle.std.specs.Prelude.{All, ◌==◌}
use Rattle.std.specs.Char.{is_ascii_digit}
use Rattle.std.specs.List.{AllPass}
use Rattle.std.proofs.lemmas.Bool.Decides.{nat_tests}
use Rattle.std.proofs.lemmas.List.{append_cancel_left}
use Rattle.kms_names.specs.Characters.{is_region_character}
use Rattle.account_rows.specs.declared.entries.Entry.{Entry}
use Rattle.journal_lines.specs.Cuts.{cut_at, first_line, behind_line}
use Rattle.journal_lines.specs.Forms.{IsEntry}
use Rattle.journal_lines.specs.FrameLines.{head_front, head_line, end_line}
use Rattle.journal_lines.specs.Frames.{head_in}
use Rattle.journal_lines.specs.Lines.{entry_line}
use Rattle.journal_lines.proofs.CutFacts.{cut_behind}
use Rattle.journal_lines.proofs.FeedFacts.{entry_first, entry_behind}
use Rattle.journal_lines.proofs.FrameFacts.{head_told}
use Rattle.journal_lines.proofs.LineReadingFacts.{one_entry}
use Rattle.journal_file.specs.Journal.{entries_text, seal_of, before_end, text_under, journal_text}
use Rattle.journal_laws.specs.Laws.{JournalsDiffer}

-- ---- entries

heads : (a b : ℕ) (xs ys : List ℕ) → a ∷ xs ≡ b ∷ ys → a ≡ b
heads a b xs ys e = cc

apart : (xs ys : List ℕ) → 123 ∷ xs ≡ 101 ∷ ys → ⊥
apart xs ys e = let same = heads 123 101 xs ys e in absurd (omega (arith, same))

-- an entry's line begins as no last line does
no_end : (entry : Entry) (rest : List ℕ) (count : ℕ) (seal : List ℕ) → entry_line entry ++ rest ≢ end_line count seal
unfolding entry_line
no_end entry rest count seal e = apart _ _ e

entries_told : (history other : List Entry) (count counted : ℕ) (seal sealed : List ℕ) → All IsEntry history → All IsEntry other
    → entries_text history ++ end_line count seal ≡ entries_text other ++ end_line counted sealed → history ≡ other
entries_told [] [] count counted seal sealed forms others e = refl
entries_told [] (entry ∷ other) count counted seal sealed forms others e =
    absurd (no_end entry (entries_text other ++ end_line counted sealed) count seal (sym (e ∙ append_assoc (entry_line entry) (entries_text other) (end_line counted sealed))))
entries_told (entry ∷ history) [] count counted seal sealed forms others e =
    absurd (no_end entry (entries_text history ++ end_line count seal) counted sealed (sym (append_assoc (entry_line entry) (entries_text history) (end_line count seal)) ∙ e))
entries_told (entry ∷ history) (next ∷ other) count counted seal sealed forms others e =
    let rest : List ℕ = entries_text history ++ end_line count seal in
    let more : List ℕ = entries_text other ++ end_line counted sealed in
    let both : entry_line entry ++ rest ≡ entry_line next ++ more =
    sym (append_assoc (entry_line entry) (entries_text history) (end_line count seal)) ∙ e ∙ append_assoc (entry_line next) (entries_text other) (end_line counted sealed) in
    let form : IsEntry entry = forms 0 entry (omega arith) in
    let formed : IsEntry next = others 0 next (omega arith) in
    let line : entry_line entry ≡ entry_line next = sym (entry_first entry form rest) ∙ ap first_line both ∙ entry_first next formed more in
    let behind : rest ≡ more = sym (entry_behind entry form rest) ∙ ap behind_line both ∙ entry_behind next formed more in
    ap₂ (λ (first : Entry) (front : List Entry). first ∷ front) (one_entry entry next form formed line)
    (entries_told history other count counted seal sealed (λ k d lt. forms (suc k) d (omega arith)) (λ k d lt. others (suc k) d (omega arith)) behind)

-- ---- the first line

some_same : {A : Type 0} (a b : A) → Some a ≡ Some b → a ≡ b
some_same a b e = cc

-- where texts of this account and region are one, so are their boot numbers and their entries
pub boot_and_history : (account region root secret : List ℕ) (boot number : ℕ) (history other : List Entry) → boot < 2 ^ 32 → number < 2 ^ 32 → All IsEntry history → All IsEntry other
    → text_under account region root boot history ≡ text_under account region secret number other → (boot ≡ number) × (history ≡ other)
unfolding text_under
boot_and_history account region root secret boot number history other small low forms others e =
    let last : List ℕ = end_line (length history) (seal_of root (before_end account region boot history)) in
    let end : List ℕ = end_line (length other) (seal_of secret (before_end account region number other)) in
    let rest : List ℕ = entries_text history ++ last in
    let more : List ℕ = entries_text other ++ end in
    let whole : head_line account region boot ++ rest ≡ head_line account region number ++ more =
    sym (append_assoc (head_line account region boot) (entries_text history) last) ∙ e ∙ append_assoc (head_line account region number) (entries_text other) end in
    let both : (boot, rest) ≡ (number, more) =
    some_same (boot, rest) (number, more) (sym (head_told account region boot rest small) ∙ ap (head_in account region) whole ∙ head_told account region number more low) in
    (ap (λ (p : ℕ × List ℕ). p.0) both, entries_told history other _ _ _ _ forms others (ap (λ (p : ℕ × List ℕ). p.1) both))

digit_no_space : (c : ℕ) → is_ascii_digit c ≡ true → not (c == 32) ≡ true
digit_no_space c digit = grind (arith, nat_tests)

region_no_space : (c : ℕ) → is_region_character c ≡ true → not (c == 32) ≡ true
region_no_space c is = grind (arith, nat_tests, is)

spaceless : (p : ℕ → Bool) → ((c : ℕ) → p c ≡ true → not (c == 32) ≡ true) → (text : List ℕ) → AllPass p text → AllPass (λ c. not (c == 32)) text
spaceless p each text all = λ k d lt. each (get_or text k d) (all k d lt)

-- what stands before and behind the first space is one
cut_so : (text other rest more : List ℕ) → AllPass (λ c. not (c == 32)) text → AllPass (λ c. not (c == 32)) other → text ++ 32 ∷ rest ≡ other ++ 32 ∷ more → (text ≡ other) × (rest ≡ more)
cut_so text other rest more free clear e =
    let both : (text, rest) ≡ (other, more) = some_same (text, rest) (other, more) (sym (cut_behind 32 text rest free) ∙ ap (cut_at 32) e ∙ cut_behind 32 other more clear) in
    (ap (λ (p : List ℕ × List ℕ). p.0) both, ap (λ (p : List ℕ × List ℕ). p.1) both)

-- a text as its account, its region, and what follows
fronted : (account region root : List ℕ) (boot : ℕ) (history : List Entry)
    → (rest : List ℕ) × (text_under account region root boot history ≡ codes "kms-journal 1 " ++ (account ++ 32 ∷ (region ++ 32 ∷ rest)))
unfolding text_under
fronted account region root boot history =
    let last : List ℕ = end_line (length history) (seal_of root (before_end account region boot history)) in
    let front : List ℕ = head_front account region in
    let number : List ℕ = decimal boot ++ 10 ∷ [] in
    let rest : List ℕ = (number ++ entries_text history) ++ last in (
      rest,
      ap (λ (t : List ℕ). t ++ last) (append_assoc front number (entries_text history))
          ∙ append_assoc front (number ++ entries_text history) last
          ∙ ap (λ (t : List ℕ). codes "kms-journal 1 " ++ t) (append_assoc account (32 ∷ (region ++ 32 ∷ [])) rest)
          ∙ ap (λ (t : List ℕ). codes "kms-journal 1 " ++ (account ++ 32 ∷ t)) (append_assoc region (32 ∷ []) rest),
    )

pub texts_differ : JournalsDiffer
texts_differ facts others history other proper fit forms formed e =
    let one = fronted facts.account facts.region facts.root facts.boot history in
    let two = fronted others.account others.region others.root others.boot other in
    let behind = append_cancel_left (codes "kms-journal 1 ") (facts.account ++ 32 ∷ (facts.region ++ 32 ∷ one.0)) (others.account ++ 32 ∷ (others.region ++ 32 ∷ two.0)) (sym one.1 ∙ e ∙ two.1) in
    let first = cut_so facts.account others.account (facts.region ++ 32 ∷ one.0) (others.region ++ 32 ∷ two.0)
    (spaceless is_ascii_digit digit_no_space facts.account proper.account.1) (spaceless is_ascii_digit digit_no_space others.account fit.account.1) behind in
    let second = cut_so facts.region others.region one.0 two.0
    (spaceless is_region_character region_no_space facts.region proper.region.2) (spaceless is_region_character region_no_space others.region fit.region.2) first.1 in
    let here : journal_text facts history ≡ text_under facts.account facts.region others.root others.boot other =
    e ∙ ap₂ (λ (a r : List ℕ). text_under a r others.root others.boot other) (sym first.0) (sym second.0) in
    let last = boot_and_history facts.account facts.region facts.root others.root facts.boot others.boot history other proper.boot fit.boot forms formed here in
    record { account = first.0; region = second.0; boot = last.0; entries = last.1 }
