use Rattle.std.proofs.Common.{Ok, ◌≡◌, sym, ap, ◌∙◌, subst}
use Rattle.account_core.specs.Account.{Account}
use Rattle.account_steps.specs.declared.facts.RealmFacts.{RealmFacts}
use Rattle.account_core.specs.Decide.{IsProper, decision_of}
use Rattle.published_account.specs.Pairs.{entries_of}
use Rattle.publish_pass.specs.Pass.{Pass}
use Rattle.publish_pass.proofs.PassLemmas.{next_entry, answers_none, answers_one, entry_here}
use Rattle.publish_pass.proofs.Between.{leaves_decision}
use Rattle.publish_pass.proofs.desk.Desk.decide.Goals as goal

pub enact-requires-clause-next : goal.enact-requires-clause-next
enact-requires-clause-next g c =
    let proper = subst (λ (f : RealmFacts). IsProper f c.args.ask.now) c.seen-front.ensures.facts c.requires.proper in
    let gives = sym c.in-Change.is ∙ c.in_ok-reply.ensures ∙ ap (λ (a : Account). decision_of a.facts a.entries c.args.ask.now) c.account.ensures in
    next_entry g.R.Realm.facts _ c.args.ask.now c.in-Change.entry c.in-Change.reply gives proper

pub returns-in-Change-clause-ok : goal.returns-in-Change-clause-ok
returns-in-Change-clause-ok g c =
    let s : Pass = c.args.pass.now in
    let account : Account = c.account.result.now in
    let facts : account.facts ≡ s.facts = ap (λ (a : Account). a.facts) c.account.ensures ∙ sym c.seen-front.ensures.facts in
    let entries : account.entries ≡ entries_of s.history = ap (λ (a : Account). a.entries) c.account.ensures ∙ ap entries_of (sym c.requires.met) in
    answers_one s c.args.ask.now account facts entries c.requires.changes c.enact.result c.in-Change.entry c.in-Change.reply (sym c.in-Change.is ∙ c.in_ok-reply.ensures) c.enact.new.pass c.enact.new.self.pairs c.enact.ensures.made c.enact.ensures.answer

pub returns-in-Change-clause-any_moment : goal.returns-in-Change-clause-any_moment
returns-in-Change-clause-any_moment g c = λ keeps.
    let s : Pass = c.args.pass.now in
    let account : Account = c.account.result.now in
    let facts : account.facts ≡ s.facts = ap (λ (a : Account). a.facts) c.account.ensures ∙ sym c.seen-front.ensures.facts in
    let entries : account.entries ≡ entries_of s.history = ap (λ (a : Account). a.entries) c.account.ensures ∙ ap entries_of (sym c.requires.met) in
    leaves_decision g.K.Keeps.moment g.K.Keeps.left_since (g.K.Keeps.reads g.R.Realm.facts) c.args.self.now.keeper c.enact.new.self.keeper s c.args.self.now.pairs c.args.ask.now c.in-Change.entry c.requires.met
    (entry_here s c.args.ask.now account facts entries c.requires.changes c.in-Change.entry c.in-Change.reply (sym c.in-Change.is ∙ c.in_ok-reply.ensures)) (c.enact.ensures.any_moment keeps)

pub returns-in_ok-answer_with-in-Refused-clause-ok : goal.returns-in_ok-answer_with-in-Refused-clause-ok
returns-in_ok-answer_with-in-Refused-clause-ok g c =
    let s : Pass = c.args.pass.now in
    let account : Account = c.account.result.now in
    let facts : account.facts ≡ s.facts = ap (λ (a : Account). a.facts) c.account.ensures ∙ sym c.seen-front.ensures.facts in
    let entries : account.entries ≡ entries_of s.history = ap (λ (a : Account). a.entries) c.account.ensures ∙ ap entries_of (sym c.requires.met) in
    answers_none s c.args.ask.now account facts entries c.requires.changes {E = Unit {0}} (Ok c.in_ok-answer_with-in-Refused.field-0) c.seen-front.result c.in-Refused.reply _ c.in-Refused.is c.in_ok-reply.ensures
    c.seen-front.ensures.number c.args.self.now.pairs (sym c.requires.met) c.in_ok-answer_with-in-Refused.ensures
