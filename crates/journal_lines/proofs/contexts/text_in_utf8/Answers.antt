use Rattle.std.proofs.Common.{ap, ◌∙◌, Bor, List, ℕ, Option}
use Rattle.std.specs.Option.{option_map}
use Rattle.journal_lines.proofs.TextFacts.{utf8_text}
use Rattle.journal_lines.proofs.contexts.text_in_utf8.Goals as goal

pub returns : goal.returns
returns c =
    ap (λ (text : Option (Bor (List ℕ))). option_map (λ t. t.now) text) c.ok.ensures.value
    ∙ utf8_text _ c.args.bytes.now c.from_utf8.result c.from_utf8.ensures.cases
