use Rattle.std.proofs.Common.{◌≡◌, ap, ◌∙◌, Option, Result, Ok, Err}
use Rattle.kms_json.specs.declared.refusals.Refusal.{Refusal}
use Rattle.account_rows.specs.declared.entries.What.{What}
use Rattle.account_steps.specs.declared.stops.Stop.{Stop}
use Rattle.account_steps.specs.declared.stops.Stop.TheVariants as stop
use Rattle.account_steps.specs.Steps.{unless, Passes}
use Rattle.account_steps.specs.Parts.{Outcome}
use Rattle.account_steps.specs.Settling.{Makes}
use Rattle.account_steps.proofs.parts.let_pass.Goals as goal

stops : (passes : Option Refusal) (o : Outcome (Option What)) (s : Stop) → Passes passes (Err s) → Makes (unless passes (Ok o)) (Err s)
stops passes o (stop.Refused why) refused = ap (λ (p : Option Refusal). unless p (Ok o)) refused
stops passes o stop.NoMemory refused = tt

pub returns-in-Ok : goal.returns-in-Ok
returns-in-Ok g c =
    let made : Outcome (Option What) = record { reply = c.args.made.reply; effect = c.args.made.what } in
    ap (λ (p : Option Refusal). unless p (Ok made)) c.in-Ok.ensures

pub returns-in-Err : goal.returns-in-Err
returns-in-Err g c =
    let made : Outcome (Option What) = record { reply = c.args.made.reply; effect = c.args.made.what } in
    stops _ made c.in-Err.stop c.in-Err.ensures
