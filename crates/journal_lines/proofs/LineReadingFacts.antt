-- A line is read as the entry whose line it is.
use Rattle.std.proofs.Common.{◌≡◌, ℕ, ◌-◌, List, [], ◌∷◌, ◌++◌, length, take, Bool, true, false, cond, Option, Some, None, IsUtf8, refl, sym, ap, ◌∙◌, length-append, arith}
use Rattle.std.specs.Option.{option_and_then}
use Rattle.std.specs.Str.{bytes_eq, is_utf8}
use Rattle.std.proofs.Math.Seq.{take-append_seam}
use Rattle.std.proofs.lemmas.Slice.Eq.{bytes_eq-Decides}
use Rattle.kms_names.specs.Reading.{some_if}
use Rattle.serde_json.specs.Data.{Data}
use Rattle.serde_json.specs.Read.{read as read_text}
use Rattle.serde_json.specs.Written.{compact_text}
use Rattle.account_rows.specs.declared.entries.Entry.{Entry}
use Rattle.journal_lines.specs.Forms.{IsEntry}
use Rattle.journal_lines.specs.Entries.{entry_in}
use Rattle.journal_lines.specs.Lines.{entry_data, entry_line}
use Rattle.journal_lines.specs.LineReading.{value_of, if_line_of, before_last, entry_of}
use Rattle.journal_lines.proofs.EntryFacts.{entry_read}
use Rattle.journal_lines.proofs.JsonFacts.{text_reads, text_utf8}
use Rattle.journal_lines.proofs.PlainFacts.{entry_plain, entry_depth}
use Rattle.journal_lines.proofs.TextFacts.{utf8_decides}

by_utf8 : (b : Bool) (o : Option Data) → b ≡ true → o ≡ cond b o None
by_utf8 true o e = refl
by_utf8 false o e = cc

pub value_some : (text : List ℕ) (d : Data) → IsUtf8 text → read_text text ≡ Some d → Some d ≡ value_of text
unfolding value_of
value_some text d u e = sym e ∙ by_utf8 (is_utf8 text) (read_text text) ((utf8_decides text).1 u)

none_by : (b : Bool) (o : Option Data) → (b ≡ true → o ≡ None) → None ≡ cond b o None
none_by true o h = sym (h refl)
none_by false o h = refl

pub value_none : (text : List ℕ) → (IsUtf8 text → read_text text ≡ None) → None ≡ value_of text
unfolding value_of
value_none text h = none_by (is_utf8 text) (read_text text) (λ e. h ((utf8_decides text).0 e))

front : (text : List ℕ) → before_last (text ++ 10 ∷ []) ≡ text
front text =
    let size : length (text ++ 10 ∷ []) - 1 ≡ length text = omega (arith, length-append text (10 ∷ [])) in
    ap (λ (n : ℕ). take n (text ++ 10 ∷ [])) size ∙ take-append_seam text (10 ∷ [])

some_true : (b : Bool) (entry : Entry) → b ≡ true → some_if b entry ≡ Some entry
some_true true entry e = refl
some_true false entry e = cc

-- the line of an entry is read as it
pub line_told : (entry : Entry) → IsEntry entry → entry_of (entry_line entry) ≡ Some entry
unfolding entry_of entry_line
line_told entry form =
    let text : List ℕ = compact_text (entry_data entry) in
    let plain = entry_plain entry form in
    let value = value_some text (entry_data entry) (text_utf8 (entry_data entry) plain) (text_reads (entry_data entry) plain (entry_depth entry)) in
    ap (λ (t : List ℕ). option_and_then (if_line_of (text ++ 10 ∷ [])) (option_and_then entry_in (value_of t))) (front text)
    ∙ ap (λ (o : Option Data). option_and_then (if_line_of (text ++ 10 ∷ [])) (option_and_then entry_in o)) (sym value)
    ∙ ap (λ (o : Option Entry). option_and_then (if_line_of (text ++ 10 ∷ [])) o) (entry_read entry form)
    ∙ some_true (bytes_eq (text ++ 10 ∷ []) (text ++ 10 ∷ [])) entry ((bytes_eq-Decides (text ++ 10 ∷ []) (text ++ 10 ∷ [])).1 refl)

if_some : (b : Bool) (made entry : Entry) → some_if b made ≡ Some entry → (b ≡ true) × (made ≡ entry)
if_some true made entry e = (refl, cc)
if_some false made entry e = cc

found : (line : List ℕ) (o : Option Entry) (entry : Entry) → option_and_then (if_line_of line) o ≡ Some entry → line ≡ entry_line entry
found line None entry e = cc
found line (Some made) entry e =
    let parts = if_some (bytes_eq (entry_line made) line) made entry e in
    sym ((bytes_eq-Decides (entry_line made) line).0 parts.0) ∙ ap entry_line parts.1

-- an entry that is read has the line
pub line_is : (line : List ℕ) (entry : Entry) → entry_of line ≡ Some entry → line ≡ entry_line entry
unfolding entry_of
line_is line entry e = found line (option_and_then entry_in (value_of (before_last line))) entry e

-- two entries have two lines
pub one_entry : (a b : Entry) → IsEntry a → IsEntry b → entry_line a ≡ entry_line b → a ≡ b
one_entry a b p q e = let both : Some a ≡ Some b = sym (line_told a p) ∙ ap entry_of e ∙ line_told b q in cc
