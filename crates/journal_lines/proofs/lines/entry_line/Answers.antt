use Rattle.std.proofs.Common.{◌≡◌, false, ℕ, List, [], ◌∷◌, ◌++◌, ap, ◌∙◌}
use Rattle.serde_json.specs.View.{view}
use Rattle.serde_json.specs.Written.{has_float, compact_text}
use Rattle.journal_lines.specs.Lines.{entry_data, entry_line}
use Rattle.journal_lines.proofs.lines.entry_line.Goals as goal
use Rattle.journal_lines.proofs.LineFacts.{exact}

pub returns : goal.returns
unfolding entry_line
returns c =
    let value = view c.in_ok-value.value in
    let entry = c.args.entry.now in
    let is : value ≡ entry_data entry = c.in_ok-value.ensures in
    let no_float : has_float value ≡ false = ap has_float is ∙ exact entry in
    c.new.ensures ∙ c.in_ok-push.ensures.items ∙ ap (λ (text : List ℕ). text ++ 10 ∷ []) (c.in_ok-text.ensures.text no_float ∙ ap compact_text is)
