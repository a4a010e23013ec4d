-- A decision from what the account keeps.
use Rattle.std.proofs.Common.{◌≡◌, ℕ, Bool, if◌then◌else◌, List, length, Option, Some, None, Result, Ok, Err, sym, ap, ◌∙◌, subst}
use Rattle.draw_lines.specs.Line.{Line}
use Rattle.kms_json.specs.declared.asks.Ask.{Ask}
use Rattle.kms_json.specs.declared.asks.AskBody.{AskBody}
use Rattle.kms_json.specs.declared.asks.AskBody.TheVariants as ask
use Rattle.kms_json.specs.declared.asks.Changing.{Changing}
use Rattle.kms_json.specs.declared.asks.Reading.{Reading}
use Rattle.kms_json.specs.declared.refusals.Refusal.{Refusal}
use Rattle.kms_json.proofs.Statuses.{refused_unserved}
use Rattle.kms_json.specs.declared.replies.Reply.TheVariants.{Refused}
use Rattle.account_core.specs.declared.decide.Decision.TheVariants as decision
use Rattle.account_steps.specs.declared.facts.RealmFacts.{RealmFacts}
use Rattle.account_rows.specs.declared.entries.Entry.{Entry}
use Rattle.account_steps.specs.declared.parts.Made.{Made}
use Rattle.account_steps.specs.declared.stops.Stop.{Stop}
use Rattle.account_steps.specs.declared.stops.Stop.TheVariants as stop
use Rattle.account_steps.specs.Places.{no_places, line_at, IsWithin}
use Rattle.account_steps.specs.declared.places.Places.{Places}
use Rattle.account_rows.specs.declared.entries.What.{What}
use Rattle.account_steps.specs.View.{View, view_of}
use Rattle.account_steps.specs.Steps.{unless}
use Rattle.account_steps.specs.Parts.{Outcome, Decided, refuses, decided_read, decided_change, entry_of}
use Rattle.account_steps.specs.Settling.{Settles, Makes}
use Rattle.account_core.specs.Operations.{change_outcome, read_outcome}
use Rattle.account_core.specs.declared.asking.Asked.TheVariants as asked
use Rattle.account_core.specs.Decide.{lacking, decide_body, decide, decision_by, decision_of, asked_of_body, asked_by, asked_at}

module _ (facts : RealmFacts) (history : List Entry) (x : Ask) (places : Places) where
  -- the history is too short
  short_body : (body : AskBody) (why : Refusal) → lacking (length history) x.after ≡ Some why → decide_body facts history x body places ≡ refuses why places
  short_body (ask.Change body) why is =
      let view : View = view_of facts history x no_places in
      ap (λ (first : Option Refusal). decided_change view.moment (unless first (change_outcome view body)) places) is
  short_body (ask.Read body) why is =
      ap (λ (first : Option Refusal). decided_read (unless first (read_outcome (view_of facts history x places) body)) places) is

  pub refused_first : (why : Refusal) → Some why ≡ lacking (length history) x.after → decide facts history x places ≡ refuses why places
  unfolding decide
  refused_first why is = short_body x.body why (sym is)

  -- it is long enough
  pub by_read : (view : View) (body : Reading) → None ≡ lacking (length history) x.after → x.body ≡ ask.Read body → view ≡ view_of facts history x places
      → decided_read (read_outcome view body) places ≡ decide facts history x places
  unfolding decide
  by_read view body enough is seen =
      ap (λ (v : View). decided_read (read_outcome v body) places) seen
      ∙ ap (λ (first : Option Refusal). decided_read (unless first (read_outcome (view_of facts history x places) body)) places) enough
      ∙ ap (λ (b : AskBody). decide_body facts history x b places) (sym is)

  pub by_change : (view : View) (body : Changing) → None ≡ lacking (length history) x.after → x.body ≡ ask.Change body → view ≡ view_of facts history x no_places
      → decided_change view.moment (change_outcome view body) places ≡ decide facts history x places
  unfolding decide
  by_change view body enough is seen =
      let at : View = view_of facts history x no_places in
      ap (λ (v : View). decided_change v.moment (change_outcome v body) places) seen
      ∙ ap (λ (first : Option Refusal). decided_change at.moment (unless first (change_outcome at body)) places) enough
      ∙ ap (λ (b : AskBody). decide_body facts history x b places) (sym is)

-- ---- what is asked

module _ (facts : RealmFacts) (history : List Entry) (x : Ask) where
  pub asks_nothing : (why : Refusal) → Some why ≡ lacking (length history) x.after → asked.Early ≡ asked_at facts history x
  unfolding asked_at
  asks_nothing why is = ap (λ (first : Option Refusal). asked_by (unless first (asked_of_body (view_of facts history x no_places) x.body))) is

  pub asks_of_body : (view : View) → None ≡ lacking (length history) x.after → view ≡ view_of facts history x no_places → asked_by (asked_of_body view x.body) ≡ asked_at facts history x
  unfolding asked_at
  asks_of_body view enough seen =
      ap (λ (v : View). asked_by (asked_of_body v x.body)) seen
      ∙ ap (λ (first : Option Refusal). asked_by (unless first (asked_of_body (view_of facts history x no_places) x.body))) enough

-- ---- answers that stop

pub at_refusal : (d : Decided) (old new : Line) (e : Stop) (why : Refusal) → e ≡ stop.Refused why → Settles d old (Err e) new → (Refused why ≡ d.reply) × (new ≡ line_at old d.places)
at_refusal d old new e why is settles = subst (λ (s : Stop). Settles d old (Err s) new) is settles

pub at_want : (d : Decided) (old new : Line) (e : Stop) → e ≡ stop.NoMemory → Settles d old (Err e) new → IsWithin old new d.places
at_want d old new e is settles = subst (λ (s : Stop). Settles d old (Err s) new) is settles

pub made_refusal : (wanted : Result (Outcome (Option What)) Refusal) (e : Stop) (why : Refusal) → e ≡ stop.Refused why → Makes wanted (Err e) → wanted ≡ Err why
made_refusal wanted e why is makes = subst (λ (s : Stop). Makes wanted (Err s)) is makes

-- ---- as a decision that changes

-- a refusal is a decision that refuses
refused_is : (refusal : Refusal) → decision.Refused (Refused refusal) ≡ decision_by (Refused refusal) None
refused_is refusal =
    ap (λ (served : Bool). if served then decision.Served (Refused refusal) else decision.Refused (Refused refusal)) (sym (refused_unserved refusal))

pub stops_with : (facts : RealmFacts) (history : List Entry) (x : Ask) (why : Refusal) → refuses why no_places ≡ decide facts history x no_places
    → decision.Refused (Refused why) ≡ decision_of facts history x
stops_with facts history x why is = refused_is why ∙ ap (λ (d : Decided). decision_by d.reply d.entry) is

pub makes : (facts : RealmFacts) (history : List Entry) (x : Ask) (moment : ℕ) (made : Made)
    → decided_change moment (Ok (record { reply = made.reply; effect = made.what })) no_places ≡ decide facts history x no_places
    → decision_by made.reply (entry_of moment made.what) ≡ decision_of facts history x
makes facts history x moment made is = ap (λ (d : Decided). decision_by d.reply d.entry) is
