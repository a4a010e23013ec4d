use Rattle.std.proofs.Common.{◌≡◌, ap, ◌∙◌, sym, subst, Option, Result, Ok}
use Rattle.kms_json.specs.declared.refusals.Refusal.{Refusal}
use Rattle.kms_json.specs.declared.replies.Reply.{Reply}
use Rattle.account_rows.specs.declared.entries.What.{What}
use Rattle.account_steps.specs.Steps.{unless, or_else}
use Rattle.account_steps.specs.Parts.{Outcome, limited, only_asked}
use Rattle.account_steps.specs.Settling.{Makes}
use Rattle.account_steps.proofs.Passing.{goes_by}
use Rattle.account_steps.proofs.parts.change.Goals as goal

-- what was made, by what was wanted
made_is : (reply wanted_reply : Reply) (what wanted : Option What) → reply ≡ wanted_reply → what ≡ wanted
    → ◌≡◌ {A = Outcome (Option What)} (record { reply = wanted_reply; effect = wanted }) (record { reply = reply; effect = what })
made_is reply wanted_reply what wanted e f = λ i. record { reply = sym e i; effect = sym f i }

pub returns : goal.returns
returns g c =
    let view = g.O.Request.seen c.args.operation.now in
    let parts = g.O.Request.parts c.args.operation.now in
    let does = g.O.Changes.does c.args.operation.now in
    let passes : Outcome (Option What) → Result (Outcome (Option What)) Refusal = λ o. unless (or_else (limited view o.effect) (only_asked parts.dry_run)) (Ok o) in
    let made = c.in_ok-make.field-0 in
    let is = goes_by view parts (limited view) does c.in_ok-found.found c.in_ok-found.ready c.in_ok-found.ensures
    ∙ ap passes (made_is made.reply _ made.what _ c.in_ok-make.ensures.reply c.in_ok-make.ensures.does) in
    subst (λ (wanted : Result (Outcome (Option What)) Refusal). Makes wanted c.let_pass.result) (sym is) c.let_pass.ensures
