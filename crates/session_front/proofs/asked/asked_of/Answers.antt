use Rattle.std.proofs.Common.{Result, subst, sym, ap₂, codes, ◌∙◌}
use Rattle.kms_json.specs.declared.asks.AskBody.{AskBody}
use Rattle.kms_json.specs.declared.refusals.Refusal.{Refusal}
use Rattle.kms_json.specs.Asks.{AnswersFor}
use Rattle.http_front.specs.Heading.{values_of}
use Rattle.session_front.specs.Asked.{asked_once}
use Rattle.session_front.proofs.AskedLemmas.{one_value, none_now}
use Rattle.session_front.proofs.asked.asked_of.Goals as goal

pub returns : goal.returns
returns c = λ m is.
    let values = values_of (codes "X-Amz-Target") m.head in
    let once = one_value values c.in-Some.target.now (c.in-Some.ensures m is) (none_now c.header-2.result c.if-is_some.ensures ∙ c.header-2.ensures m is) in
    let same = ap₂ asked_once (sym once) (c.body.ensures m is) in
    subst (λ (r : Result AskBody Refusal). AnswersFor r c.read_ask.result) same c.read_ask.ensures
