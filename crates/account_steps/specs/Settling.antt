-- How the code's answers stand to a decision.
use Rattle.std.specs.Prelude.{◌≡◌, Option, Result, Ok, Err}
use Rattle.draw_lines.specs.Line.{Line}
use Rattle.kms_json.specs.declared.replies.Reply.{Reply}
use Rattle.kms_json.specs.declared.replies.Reply.TheVariants.{Refused}
use Rattle.kms_json.specs.declared.refusals.Refusal.{Refusal}
use Rattle.account_rows.specs.declared.entries.What.{What}
use Rattle.account_steps.specs.declared.stops.Stop.{Stop}
use Rattle.account_steps.specs.declared.stops.Stop.TheVariants as stop
use Rattle.account_steps.specs.declared.parts.Made.{Made}
use Rattle.account_steps.specs.Places.{line_at, IsWithin}
use Rattle.account_steps.specs.Parts.{Outcome, Decided}

-- the answer is the decision's, and the line of draws stands where the decision leaves it; without memory it stands at most there
abbrev pub Settles : Decided → Line → Result Reply Stop → Line → Type 0
Settles d old (Ok reply) new = (reply ≡ d.reply) × (new ≡ line_at old d.places)
Settles d old (Err (stop.Refused why)) new = (Refused why ≡ d.reply) × (new ≡ line_at old d.places)
Settles d old (Err stop.NoMemory) new = IsWithin old new d.places

-- what was made is the outcome, or the refusal is
abbrev pub Makes : Result (Outcome (Option What)) Refusal → Result Made Stop → Type 0
Makes wanted (Ok made) = wanted ≡ Ok (record { reply = made.reply; effect = made.what })
Makes wanted (Err (stop.Refused why)) = wanted ≡ Err why
Makes wanted (Err stop.NoMemory) = Unit {0}
