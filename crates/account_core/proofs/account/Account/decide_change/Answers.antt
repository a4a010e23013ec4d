use Rattle.std.proofs.Common.{◌≡◌, ℕ, length, sym, ap, subst, ◌∙◌}
use Rattle.kms_json.specs.Asks.{IsSized}
use Rattle.kms_json.proofs.Sizes.{asked_sized}
use Rattle.account_core.specs.Account.{Account}
use Rattle.account_steps.specs.Places.{no_places}
use Rattle.account_steps.specs.Parts.{decided_change, entry_of}
use Rattle.account_core.specs.Decide.{lacking, decision_by}
use Rattle.account_core.proofs.Decisions.{refused_first, by_change, made_refusal, stops_with, makes}
use Rattle.account_core.proofs.account.Account.decide_change.Goals as goal

pub change_body-requires : goal.change_body-requires
change_body-requires c =
    let proper = c.requires.proper in
    record { sized = subst IsSized c.in-Change.is (asked_sized proper.target proper.text c.args.ask.now.body proper.body) }

pub returns-in-Some : goal.returns-in-Some
returns-in-Some c =
    let a = c.args.self.now in
    let x = c.args.ask.now in
    let number : c.entries.result ≡ length a.entries = c.entries.ensures.number ∙ ap (λ (s : Account). length s.entries) c.self.view_is in
    let short = c.in-Some.ensures ∙ ap (λ (n : ℕ). lacking n x.after) number in
    stops_with a.facts a.entries x c.in-Some.refusal (sym (refused_first a.facts a.entries x no_places c.in-Some.refusal short))

pub returns-in-Ok : goal.returns-in-Ok
returns-in-Ok c =
    let a = c.args.self.now in
    let x = c.args.ask.now in
    let number : c.entries.result ≡ length a.entries = c.entries.ensures.number ∙ ap (λ (s : Account). length s.entries) c.self.view_is in
    let enough = c.in_default.ensures ∙ ap (λ (n : ℕ). lacking n x.after) number in
    let is = by_change a.facts a.entries x no_places c.in_ok-view.view c.in-Change.body enough c.in-Change.is c.in_ok-view.ensures in
    let moment = c.in_ok-view.view.moment in
    c.decision_from.ensures ∙ ap (λ (t : ℕ). decision_by c.in-Ok.made.reply (entry_of t c.in-Ok.made.what)) c.moment-moment.ensures.moment
    ∙ makes a.facts a.entries x moment c.in-Ok.made (sym (ap (λ o. decided_change moment o no_places) c.in-Ok.ensures) ∙ is)

pub returns-in-Err-Refused : goal.returns-in-Err-Refused
returns-in-Err-Refused c =
    let a = c.args.self.now in
    let x = c.args.ask.now in
    let number : c.entries.result ≡ length a.entries = c.entries.ensures.number ∙ ap (λ (s : Account). length s.entries) c.self.view_is in
    let enough = c.in_default.ensures ∙ ap (λ (n : ℕ). lacking n x.after) number in
    let is = by_change a.facts a.entries x no_places c.in_ok-view.view c.in-Change.body enough c.in-Change.is c.in_ok-view.ensures in
    let refused = made_refusal _ c.in-Err-Refused.field-0 c.in-Err-Refused.refusal c.in-Err-Refused.field-0-is c.in-Err-Refused.ensures in
    stops_with a.facts a.entries x c.in-Err-Refused.refusal (sym (ap (λ o. decided_change c.in_ok-view.view.moment o no_places) refused) ∙ is)
