-- The text of a journal in the making.
use Rattle.std.proofs.Common.{◌≡◌, ℕ, zero, suc, ◌+◌, ◌≤◌, List, [], ◌∷◌, ◌++◌, length, drop, Some, sym, ap, ◌∙◌, append-nil, append_assoc, arith}
use Rattle.std.specs.List.{slice_get}
use Rattle.std.proofs.Math.ListN.{drop_of_length-le}
use Rattle.account_rows.specs.declared.entries.Entry.{Entry}
use Rattle.journal_lines.specs.Lines.{entry_line}
use Rattle.journal_file.specs.Journal.{entries_text}

-- all entries are written
pub written : (text whole : List ℕ) (history : List Entry) (place : ℕ) → length history ≤ place → text ++ entries_text (drop place history) ≡ whole → text ≡ whole
written text whole history place past is =
    sym (append-nil text) ∙ ap (λ (h : List Entry). text ++ entries_text h) (sym (drop_of_length-le history past)) ∙ is

drop_next : (place : ℕ) (first : Entry) (history : List Entry) → drop (suc place + 1) (first ∷ history) ≡ drop (place + 1) history
drop_next place first history = let e : suc place + 1 ≡ suc (place + 1) = omega arith in ap (λ (k : ℕ). drop k (first ∷ history)) e

-- the entry at a place, and then those behind it
entry_at : (history : List Entry) (place : ℕ) (entry : Entry) → slice_get history place ≡ Some entry → drop place history ≡ entry ∷ drop (place + 1) history
entry_at [] place entry is = cc
entry_at (first ∷ history) zero entry is = let same : first ≡ entry = cc in ap (λ (e : Entry). e ∷ history) same
entry_at (first ∷ history) (suc place) entry is = entry_at history place entry is ∙ ap (λ (rest : List Entry). entry ∷ rest) (sym (drop_next place first history))

-- one line more is written
pub written_line : (text line : List ℕ) (history : List Entry) (place : ℕ) (entry : Entry) → slice_get history place ≡ Some entry → line ≡ entry_line entry
    → (text ++ line) ++ entries_text (drop (place + 1) history) ≡ text ++ entries_text (drop place history)
written_line text line history place entry is written =
    let rest : List ℕ = entries_text (drop (place + 1) history) in
    append_assoc text line rest ∙ ap (λ (l : List ℕ). text ++ (l ++ rest)) written
    ∙ ap (λ (h : List Entry). text ++ entries_text h) (sym (entry_at history place entry is))
