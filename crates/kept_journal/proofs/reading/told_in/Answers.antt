use Rattle.std.proofs.Common.{◌≡◌, ℕ, List, [], ◌∷◌, ◌++◌, Option, Some, None, codes, decimal, sym, ap, ◌∙◌}
use Rattle.std.specs.Option.{option_map}
use Rattle.journal_lines.specs.LineReading.{entry_of}
use Rattle.journal_lines.specs.Frames.{behind}
use Rattle.journal_lines.proofs.FrameFacts.{behind_is}
use Rattle.kept_journal.specs.Reading.{start_in}
use Rattle.kept_journal.proofs.Readings.{start_found, start_known, start_told, start_alone, none_behind, nothing_alone, change_alone, change_back, change_told}
use Rattle.kept_journal.proofs.reading.told_in.Goals as goal

pub returns-in-Some-start_in : goal.returns-in-Some-start_in
returns-in-Some-start_in c =
    let digits = c.in-Some.digits.now in
    let has = behind_is (codes "\"start\":") c.args.text.now digits (sym c.behind.ensures ∙ ap (λ o. option_map (λ r. r.now) o) c.in-Some.is) in
    let parts = start_found digits c.in-Some-start_in.number (sym c.start_in.ensures ∙ c.in-Some-start_in.is) in
    (parts.0, has ∙ start_told digits c.in-Some-start_in.number parts.1)

pub returns-in-None : goal.returns-in-None
returns-in-None c one back e =
    let digits = c.in-Some.digits.now in
    let has = behind_is (codes "\"start\":") c.args.text.now digits (sym c.behind.ensures ∙ ap (λ o. option_map (λ r. r.now) o) c.in-Some.is) in
    let none : start_in digits ≡ None = sym c.start_in.ensures ∙ c.in-None.is in
    start_alone digits (λ number low is. let both : None ≡ Some number = sym none ∙ start_known digits number low is in cc) one back (sym has ∙ e)

pub returns-in_default-behind : goal.returns-in_default-behind
returns-in_default-behind c =
    nothing_alone c.args.text.now (none_behind (codes "\"start\":") c.args.text.now (sym c.behind.ensures ∙ ap (λ o. option_map (λ r. r.now) o) c.in_default.is))
    (none_behind (codes "\"entry\":") c.args.text.now (sym c.behind-2.ensures ∙ ap (λ o. option_map (λ r. r.now) o) c.in_default-behind.is))

pub returns-in-Some-2 : goal.returns-in-Some-2
returns-in-Some-2 c =
    let rest = c.in-Some-behind.entry.now in
    let has = behind_is (codes "\"entry\":") c.args.text.now rest (sym c.behind-2.ensures ∙ ap (λ o. option_map (λ r. r.now) o) c.in-Some-behind.is) in
    let line : c.as_slice.result.now ≡ rest ++ 10 ∷ [] = c.as_slice.ensures.value ∙ c.in_ok-push.ensures.items ∙ ap (λ (l : List ℕ). l ++ 10 ∷ []) c.in_ok-line.ensures.items in
    let read = ap entry_of (sym line) ∙ sym c.in_ok-entry.ensures ∙ c.in-Some-2.is in
    (change_back rest c.in-Some-2.entry read, has ∙ change_told rest c.in-Some-2.entry read)

pub returns : goal.returns
returns c one back e =
    let rest = c.in-Some-behind.entry.now in
    let has = behind_is (codes "\"entry\":") c.args.text.now rest (sym c.behind-2.ensures ∙ ap (λ o. option_map (λ r. r.now) o) c.in-Some-behind.is) in
    let line : c.as_slice.result.now ≡ rest ++ 10 ∷ [] = c.as_slice.ensures.value ∙ c.in_ok-push.ensures.items ∙ ap (λ (l : List ℕ). l ++ 10 ∷ []) c.in_ok-line.ensures.items in
    let none : entry_of (rest ++ 10 ∷ []) ≡ None = ap entry_of (sym line) ∙ sym c.in_ok-entry.ensures ∙ c.in-None-2.is in
    change_alone rest none one back (sym has ∙ e)
