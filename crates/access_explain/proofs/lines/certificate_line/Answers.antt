use Rattle.std.proofs.Common.{rules, ◌≡◌, ◌++◌, ◌∷◌, [], false, ap, ◌∙◌}
use Rattle.serde_json.specs.View.{view}
use Rattle.serde_json.specs.Written.{has_float, compact_text}
use Rattle.access_explain.specs.Lines.{certificate_data, certificate_text}
use Rattle.access_explain.proofs.LineFacts.{certificate_exact}
use Rattle.access_explain.proofs.lines.certificate_line.Goals as goal

pub returns : goal.returns
unfolding certificate_text
returns c =
    let value = view c.in_ok-value.value in
    let is : value ≡ certificate_data c.args.certificate.now c.args.then.now = c.in_ok-value.ensures in
    let exact : has_float value ≡ false = ap has_float is ∙ certificate_exact c.args.certificate.now c.args.then.now in
    let pushed : c.push.new.self.items ≡ c.in_ok-text.text.items ++ 10 ∷ [] = search rules in
    c.new.ensures ∙ pushed ∙ ap (λ text. text ++ 10 ∷ []) (c.in_ok-text.ensures.text exact ∙ ap compact_text is)
