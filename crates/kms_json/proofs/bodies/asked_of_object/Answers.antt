use Rattle.std.proofs.Common.{◌≡◌, List, map, Option, Some, None, Result, Err, Global, sym, ◌∙◌, subst}
use Rattle.std.specs.Option.{option_map}
use Rattle.std.specs.declared.collections.VecDeque.{VecDeque}
use Rattle.std.proofs.lemmas.List.{length-map}
use Rattle.serde_json.specs.View.{view}
use Rattle.kms_json.specs.declared.given.Given.{Given}
use Rattle.kms_json.specs.declared.asks.AskBody.{AskBody}
use Rattle.kms_json.specs.declared.refusals.Refusal.{Refusal}
use Rattle.kms_json.specs.Asks.{AnswersFor}
use Rattle.kms_json.specs.Fields.{FieldRow, row_of, values_of, first_invalid, refused_by}
use Rattle.kms_json.specs.Operations.{fields_of}
use Rattle.kms_json.proofs.ValueLemmas.{values_counted}
use Rattle.kms_json.proofs.BuildLemmas.{served_is, refused_is}
use Rattle.kms_json.proofs.bodies.asked_of_object.Goals as goal

pub first_fault-requires : goal.first_fault-requires
first_fault-requires c =
    let fields = c.fields-fields.result.now in
    let body = view c.args.body.now in
    let all : Some c.in-Some.values.items ≡ values_of (map row_of fields) body =
    subst (λ (read : Option (VecDeque Given Global)). option_map (λ v. v.items) read ≡ values_of (map row_of fields) body) c.in-Some.is c.in_ok-values.ensures in
    values_counted (map row_of fields) body c.in-Some.values.items (sym all) ∙ length-map fields row_of

pub returns-in-Some-first_fault : goal.returns-in-Some-first_fault
returns-in-Some-first_fault c =
    let fields = c.fields-fields.result.now in
    let op = c.args.operation in
    let body = view c.args.body.now in
    let values = c.in-Some.values.items in
    let all : Some values ≡ values_of (map row_of fields) body =
    subst (λ (read : Option (VecDeque Given Global)). option_map (λ v. v.items) read ≡ values_of (map row_of fields) body) c.in-Some.is c.in_ok-values.ensures in
    let read : values_of (fields_of op) body ≡ Some values = subst (λ (rows : List FieldRow). values_of rows body ≡ Some values) c.fields-fields.ensures (sym all) in
    let fault : Some (refused_by c.in-Some-first_fault.fault) ≡ first_invalid (fields_of op) body values =
    subst (λ (rows : List FieldRow). Some (refused_by c.in-Some-first_fault.fault) ≡ first_invalid rows body values) c.fields-fields.ensures c.in-Some-first_fault.ensures in
    subst (λ (wanted : Result AskBody Refusal). AnswersFor wanted (Err c.refused.result)) (sym (refused_is op body values (refused_by c.in-Some-first_fault.fault) read fault)) c.refused.ensures

pub returns : goal.returns
returns c =
    let fields = c.fields-fields.result.now in
    let op = c.args.operation in
    let body = view c.args.body.now in
    let values = c.in-Some.values.items in
    let all : Some values ≡ values_of (map row_of fields) body =
    subst (λ (read : Option (VecDeque Given Global)). option_map (λ v. v.items) read ≡ values_of (map row_of fields) body) c.in-Some.is c.in_ok-values.ensures in
    let read : values_of (fields_of op) body ≡ Some values = subst (λ (rows : List FieldRow). values_of rows body ≡ Some values) c.fields-fields.ensures (sym all) in
    let valid : None ≡ first_invalid (fields_of op) body values =
    subst (λ (rows : List FieldRow). None ≡ first_invalid rows body values) c.fields-fields.ensures c.in_default-first_fault.ensures in
    served_is op body values c.asked_from.result read valid c.asked_from.ensures
