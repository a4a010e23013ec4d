use Rattle.std.proofs.Common.{ℕ, List, ◌++◌, codes, ap₂, ◌∙◌}
use Rattle.kms_json.proofs.exceptions.denied_text.Goals as goal

pub returns : goal.returns
returns c =
    c.in_ok-format.ensures.ok
    ∙ ap₂ (λ (who what : List ℕ). codes "User: " ++ (who ++ (codes " is not authorized to perform: kms:" ++ (what ++ (codes " on resource: " ++ c.args.resource.now)))))
    (c.as_str-caller.ensures.value ∙ c.in_ok-caller.ensures) c.name-action.ensures
