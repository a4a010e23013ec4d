use Rattle.std.proofs.Common.{subst, sym, ap, ◌∙◌}
use Rattle.account_core.specs.Account.{Account}
use Rattle.account_core.specs.Decide.{IsProper}
use Rattle.explain_session.specs.Explaining.{Explainer, Answers}
use Rattle.explain_session.proofs.Explainers.{explainer_at, answers_none, answers_one, next_entry, lacks_all}
use Rattle.explain_session.proofs.explainer.Explainer.change.Goals as goal

pub apply-requires : goal.apply-requires
apply-requires c =
    let account = c.self.inside.account in
    let proper = subst (λ (s : Explainer). IsProper s.facts c.args.ask.now) (sym c.self.view_is) c.requires.proper in
    next_entry account.facts account.entries c.args.ask.now c.in-Change.entry c.in-Change.reply (sym c.in-Change.is ∙ c.in_ok-reply.ensures) proper

pub returns-in_ok-self-inside-in-Change-clause-answers : goal.returns-in_ok-self-inside-in-Change-clause-answers
returns-in_ok-self-inside-in-Change-clause-answers c =
    let account = c.self.inside.account in
    let line = c.self.inside.draws in
    let next = c.in_ok-self-inside-in-Change in
    let new = explainer_at next.field-0.facts next.field-0.entries line in
    subst (λ (s : Explainer). Answers s c.args.ask.now c.in-Change.reply new) c.self.view_is
    (answers_one account.facts account.entries c.args.ask.now line c.requires.changes c.in-Change.entry c.in-Change.reply (sym c.in-Change.is ∙ c.in_ok-reply.ensures) new
    (ap (λ (a : Account). explainer_at a.facts a.entries line) next.ensures))

pub returns-in-Refused-clause-answers : goal.returns-in-Refused-clause-answers
returns-in-Refused-clause-answers c =
    let account = c.self.inside.account in
    subst (λ (s : Explainer). Answers s c.args.ask.now c.in-Refused.reply s) c.self.view_is
    (answers_none account.facts account.entries c.args.ask.now c.self.inside.draws c.requires.changes c.in-Refused.reply _ c.in-Refused.is c.in_ok-reply.ensures)

pub returns-in_err-reply-clause-lacking : goal.returns-in_err-reply-clause-lacking
returns-in_err-reply-clause-lacking c = lacks_all c.from_residual.result c.args.self.now c.args.ask.now

pub returns-in_err-self-inside-in-Change-clause-lacking : goal.returns-in_err-self-inside-in-Change-clause-lacking
returns-in_err-self-inside-in-Change-clause-lacking c = lacks_all c.from_residual-in_err-self-inside-in-Change.result c.args.self.now c.args.ask.now
