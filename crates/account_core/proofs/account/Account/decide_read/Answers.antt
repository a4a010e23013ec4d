use Rattle.std.proofs.Common.{◌≡◌, ℕ, length, sym, ap, ◌∙◌, subst}
use Rattle.kms_json.specs.Asks.{IsSized}
use Rattle.kms_json.proofs.Sizes.{asked_sized}
use Rattle.account_core.specs.Account.{Account}
use Rattle.account_steps.specs.Places.{places_of, line_at, IsWithin}
use Rattle.account_steps.specs.View.{view_of}
use Rattle.account_steps.specs.Parts.{Decided, decided_read}
use Rattle.account_core.specs.Operations.{read_outcome}
use Rattle.account_core.specs.Decide.{lacking}
use Rattle.account_core.proofs.Decisions.{refused_first, by_read, at_refusal, at_want}
use Rattle.account_core.proofs.GoingOn.{stays_within}
use Rattle.account_core.proofs.account.Account.decide_read.Goals as goal

pub returns-in-Some-clause-answer : goal.returns-in-Some-clause-answer
returns-in-Some-clause-answer c =
    let a = c.args.self.now in
    let x = c.args.ask.now in
    let number : c.entries.result ≡ length a.entries = c.entries.ensures.number ∙ ap (λ (s : Account). length s.entries) c.self.view_is in
    let short = c.in-Some.ensures ∙ ap (λ (n : ℕ). lacking n x.after) number in
    sym (ap (λ (d : Decided). d.reply) (refused_first a.facts a.entries x (places_of c.args.places.now) c.in-Some.refusal short))

pub returns-in-Some-clause-used : goal.returns-in-Some-clause-used
returns-in-Some-clause-used c =
    let a = c.args.self.now in
    let x = c.args.ask.now in
    let line = c.args.places.now in
    let number : c.entries.result ≡ length a.entries = c.entries.ensures.number ∙ ap (λ (s : Account). length s.entries) c.self.view_is in
    let short = c.in-Some.ensures ∙ ap (λ (n : ℕ). lacking n x.after) number in
    sym (ap (λ (d : Decided). line_at line d.places) (refused_first a.facts a.entries x (places_of line) c.in-Some.refusal short))

pub read_body-requires-clause-sized : goal.read_body-requires-clause-sized
read_body-requires-clause-sized c =
    let proper = c.requires.proper in
    subst IsSized c.in-Read.is (asked_sized proper.target proper.text c.args.ask.now.body proper.body)

pub returns-in-Ok-clause-answer : goal.returns-in-Ok-clause-answer
returns-in-Ok-clause-answer c =
    let a = c.args.self.now in
    let x = c.args.ask.now in
    let number : c.entries.result ≡ length a.entries = c.entries.ensures.number ∙ ap (λ (s : Account). length s.entries) c.self.view_is in
    let enough = c.in_default.ensures ∙ ap (λ (n : ℕ). lacking n x.after) number in
    let seen = c.in_ok-view.ensures ∙ ap (view_of a.facts a.entries x) c.of.ensures in
    c.in-Ok.ensures.0 ∙ ap (λ (d : Decided). d.reply) (by_read a.facts a.entries x (places_of c.args.places.now) c.in_ok-view.view c.in-Read.body enough c.in-Read.is seen)

pub returns-in-Ok-clause-used : goal.returns-in-Ok-clause-used
returns-in-Ok-clause-used c =
    let a = c.args.self.now in
    let x = c.args.ask.now in
    let line = c.args.places.now in
    let number : c.entries.result ≡ length a.entries = c.entries.ensures.number ∙ ap (λ (s : Account). length s.entries) c.self.view_is in
    let enough = c.in_default.ensures ∙ ap (λ (n : ℕ). lacking n x.after) number in
    let seen = c.in_ok-view.ensures ∙ ap (view_of a.facts a.entries x) c.of.ensures in
    c.in-Ok.ensures.1 ∙ ap (λ (d : Decided). line_at line d.places) (by_read a.facts a.entries x (places_of line) c.in_ok-view.view c.in-Read.body enough c.in-Read.is seen)

pub returns-in-Err-Refused-clause-answer : goal.returns-in-Err-Refused-clause-answer
returns-in-Err-Refused-clause-answer c =
    let a = c.args.self.now in
    let x = c.args.ask.now in
    let line = c.args.places.now in
    let number : c.entries.result ≡ length a.entries = c.entries.ensures.number ∙ ap (λ (s : Account). length s.entries) c.self.view_is in
    let enough = c.in_default.ensures ∙ ap (λ (n : ℕ). lacking n x.after) number in
    let seen = c.in_ok-view.ensures ∙ ap (view_of a.facts a.entries x) c.of.ensures in
    let stopped = at_refusal (decided_read (read_outcome c.in_ok-view.view c.in-Read.body) (places_of line)) line c.read_body.new.line c.in-Err-Refused.field-0 c.in-Err-Refused.refusal c.in-Err-Refused.field-0-is c.in-Err-Refused.ensures in
    stopped.0 ∙ ap (λ (d : Decided). d.reply) (by_read a.facts a.entries x (places_of line) c.in_ok-view.view c.in-Read.body enough c.in-Read.is seen)

pub returns-in-Err-Refused-clause-used : goal.returns-in-Err-Refused-clause-used
returns-in-Err-Refused-clause-used c =
    let a = c.args.self.now in
    let x = c.args.ask.now in
    let line = c.args.places.now in
    let number : c.entries.result ≡ length a.entries = c.entries.ensures.number ∙ ap (λ (s : Account). length s.entries) c.self.view_is in
    let enough = c.in_default.ensures ∙ ap (λ (n : ℕ). lacking n x.after) number in
    let seen = c.in_ok-view.ensures ∙ ap (view_of a.facts a.entries x) c.of.ensures in
    let stopped = at_refusal (decided_read (read_outcome c.in_ok-view.view c.in-Read.body) (places_of line)) line c.read_body.new.line c.in-Err-Refused.field-0 c.in-Err-Refused.refusal c.in-Err-Refused.field-0-is c.in-Err-Refused.ensures in
    stopped.1 ∙ ap (λ (d : Decided). line_at line d.places) (by_read a.facts a.entries x (places_of line) c.in_ok-view.view c.in-Read.body enough c.in-Read.is seen)

pub returns-in-Err-NoMemory-clause-within : goal.returns-in-Err-NoMemory-clause-within
returns-in-Err-NoMemory-clause-within c =
    let a = c.args.self.now in
    let x = c.args.ask.now in
    let line = c.args.places.now in
    let number : c.entries.result ≡ length a.entries = c.entries.ensures.number ∙ ap (λ (s : Account). length s.entries) c.self.view_is in
    let enough = c.in_default.ensures ∙ ap (λ (n : ℕ). lacking n x.after) number in
    let seen = c.in_ok-view.ensures ∙ ap (view_of a.facts a.entries x) c.of.ensures in
    let is = by_read a.facts a.entries x (places_of line) c.in_ok-view.view c.in-Read.body enough c.in-Read.is seen in
    subst (λ (d : Decided). IsWithin line c.read_body.new.line d.places) is
    (at_want (decided_read (read_outcome c.in_ok-view.view c.in-Read.body) (places_of line)) line c.read_body.new.line c.in-Err-NoMemory.field-0 c.in-Err-NoMemory.field-0-is c.in-Err-NoMemory.ensures)

pub returns-in_err-view-clause-within : goal.returns-in_err-view-clause-within
returns-in_err-view-clause-within c = stays_within c.from_residual.result c.args.self.now.facts c.args.self.now.entries c.args.ask.now c.args.places.now
