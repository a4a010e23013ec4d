use Rattle.std.proofs.Common.{subst}
use Rattle.std.specs.Prelude.{IfOk, OnErr}
use Rattle.explain_session.specs.Explaining.{Explainer, Answers, LeavesHere}
use Rattle.explain_session.proofs.Explainers.{explainer_at, answers_read, lacks_read}
use Rattle.explain_session.proofs.explainer.Explainer.read.Goals as goal

pub returns-clause-answers : goal.returns-clause-answers
returns-clause-answers c =
    let account = c.self.inside.account in
    let new = explainer_at account.facts account.entries c.decide_read.new.places in
    subst (λ (s : Explainer). IfOk c.decide_read.result (λ reply. Answers s c.args.ask.now reply new)) c.self.view_is
    (answers_read account.facts account.entries c.args.ask.now c.self.inside.draws c.decide_read.new.places c.requires.reads c.decide_read.result c.decide_read.ensures.answer c.decide_read.ensures.used)

pub returns-clause-lacking : goal.returns-clause-lacking
returns-clause-lacking c =
    let account = c.self.inside.account in
    let new = explainer_at account.facts account.entries c.decide_read.new.places in
    subst (λ (s : Explainer). OnErr c.decide_read.result (LeavesHere s c.args.ask.now new)) c.self.view_is
    (lacks_read account.facts account.entries c.args.ask.now c.self.inside.draws c.decide_read.new.places c.decide_read.result c.decide_read.ensures.within)
