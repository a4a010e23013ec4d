use Rattle.std.proofs.Common.{◌≡◌, ◌++◌, [], drop, map, List, Some, option_map, sym, ap, ◌∙◌, subst, append-nil, arith}
use Rattle.std.proofs.lemmas.List.{drop_all}
use Rattle.serde_json.specs.View.{view}
use Rattle.kms_json.specs.Fields.{row_of, values_of}
use Rattle.kms_json.specs.declared.fields.Field.{Field}
use Rattle.kms_json.proofs.fields.read_values.Goals as goal

pub returns : goal.returns
returns c =
    let fields = c.args.fields.now in
    let body = view c.args.body.now in
    let values = c.loop-field.values.items in
    let none : drop c.loop-field.field-index fields ≡ [] = drop_all c.loop-field.field-index fields (omega arith) in
    let all : values_of (map row_of fields) body ≡ Some (values ++ []) =
    subst (λ (left : List Field). values_of (map row_of fields) body ≡ option_map (λ more. values ++ more) (values_of (map row_of left) body)) none c.loop-field.invariant in
    sym (all ∙ ap Some (append-nil values))
