use Rattle.std.proofs.Common.{◌≡◌, ℕ, length, ap, subst, ◌∙◌}
use Rattle.std.specs.Prelude.{IfOk}
use Rattle.kms_json.proofs.Sizes.{asked_sized}
use Rattle.account_core.specs.Account.{Account}
use Rattle.account_core.specs.declared.asking.Asked.{Asked}
use Rattle.account_core.specs.Decide.{lacking, asked_of_body}
use Rattle.account_core.proofs.Decisions.{asks_nothing, asks_of_body}
use Rattle.account_core.proofs.account.Account.questions.Goals as goal

pub returns-in-Some : goal.returns-in-Some
returns-in-Some c =
    let a = c.args.self.now in
    let x = c.args.ask.now in
    let number : c.entries.result ≡ length a.entries = c.entries.ensures.number ∙ ap (λ (s : Account). length s.entries) c.self.view_is in
    asks_nothing a.facts a.entries x c.in-Some._refusal (c.in-Some.ensures ∙ ap (λ (n : ℕ). lacking n x.after) number)

pub asked_about-requires : goal.asked_about-requires
asked_about-requires c =
    let proper = c.requires.proper in
    asked_sized proper.target proper.text c.args.ask.now.body proper.body

pub returns : goal.returns
returns c =
    let a = c.args.self.now in
    let x = c.args.ask.now in
    let number : c.entries.result ≡ length a.entries = c.entries.ensures.number ∙ ap (λ (s : Account). length s.entries) c.self.view_is in
    let enough = c.in_default.ensures ∙ ap (λ (n : ℕ). lacking n x.after) number in
    let view = c.in_ok-view.view in
    let same = asks_of_body a.facts a.entries x view enough c.in_ok-view.ensures in
    subst (λ (wanted : Asked). IfOk c.asked_by.result (λ told. told ≡ wanted)) same (c.asked_by.ensures (asked_of_body view x.body) c.asked_about.ensures)
