-- Places only go on, and a request that changes the account does not depend on them.
use Rattle.std.proofs.Common.{◌≡◌, ℕ, List, length, true, Option, Result, Ok, Err, OnErr, refl, sym, ap, ◌∙◌, subst, arith}
use Rattle.draw_lines.specs.Line.{Line}
use Rattle.kms_json.specs.Asks.{changes_account}
use Rattle.kms_json.specs.declared.asks.Ask.{Ask}
use Rattle.kms_json.specs.declared.asks.AskBody.{AskBody}
use Rattle.kms_json.specs.declared.asks.AskBody.TheVariants as ask
use Rattle.kms_json.specs.declared.refusals.Refusal.{Refusal}
use Rattle.account_steps.specs.declared.facts.RealmFacts.{RealmFacts}
use Rattle.account_rows.specs.declared.entries.Entry.{Entry}
use Rattle.account_rows.specs.declared.entries.What.{What}
use Rattle.account_steps.specs.Places.{IsUpTo, IsWithin, places_of, line_at, no_places}
use Rattle.account_steps.specs.declared.places.Places.{Places}
use Rattle.account_steps.specs.declared.places.Uses.{Uses}
use Rattle.account_steps.specs.Steps.{unless}
use Rattle.account_steps.specs.View.{view_of}
use Rattle.account_steps.specs.Parts.{Outcome, decided_read, decided_change}
use Rattle.account_core.specs.Operations.{change_outcome, read_outcome}
use Rattle.account_core.specs.Decide.{lacking, decide_body, decide}

abbrev GoesOn : Places → Places → Type 0
GoesOn old new = IsUpTo old new new

stays : (places : Places) → GoesOn places places
stays places = record { number = refl; words_from = omega arith; words_to = omega arith; ivs_from = omega arith; ivs_to = omega arith }

read_goes_on : (outcome : Result (Outcome Uses) Refusal) (places : Places) → GoesOn places (decided_read outcome places).places
read_goes_on (Ok outcome) places = record { number = refl; words_from = omega arith; words_to = omega arith; ivs_from = omega arith; ivs_to = omega arith }
read_goes_on (Err why) places = stays places

pub change_stays : (moment : ℕ) (outcome : Result (Outcome (Option What)) Refusal) (places : Places) → (decided_change moment outcome places).places ≡ places
change_stays moment (Ok outcome) places = refl
change_stays moment (Err why) places = refl

body_goes_on : (facts : RealmFacts) (history : List Entry) (x : Ask) (body : AskBody) (places : Places) → GoesOn places (decide_body facts history x body places).places
body_goes_on facts history x (ask.Read body) places = read_goes_on (unless (lacking (length history) x.after) (read_outcome (view_of facts history x places) body)) places
body_goes_on facts history x (ask.Change body) places =
    subst (GoesOn places) (sym (change_stays _ (unless (lacking (length history) x.after) (change_outcome (view_of facts history x no_places) body)) places)) (stays places)

pub decide_goes_on : (facts : RealmFacts) (history : List Entry) (x : Ask) (places : Places) → IsUpTo places (decide facts history x places).places (decide facts history x places).places
unfolding decide
decide_goes_on facts history x places = body_goes_on facts history x x.body places

-- ---- what changes the account does not depend on places

reply_same : (moment : ℕ) (outcome : Result (Outcome (Option What)) Refusal) (p q : Places) → (decided_change moment outcome p).reply ≡ (decided_change moment outcome q).reply
reply_same moment (Ok outcome) p q = refl
reply_same moment (Err why) p q = refl

entry_same : (moment : ℕ) (outcome : Result (Outcome (Option What)) Refusal) (p q : Places) → (decided_change moment outcome p).entry ≡ (decided_change moment outcome q).entry
entry_same moment (Ok outcome) p q = refl
entry_same moment (Err why) p q = refl

module _ (facts : RealmFacts) (history : List Entry) (x : Ask) (p q : Places) where
  body_reply : (body : AskBody) → changes_account body ≡ true → (decide_body facts history x body p).reply ≡ (decide_body facts history x body q).reply
  body_reply (ask.Change body) e = reply_same _ (unless (lacking (length history) x.after) (change_outcome (view_of facts history x no_places) body)) p q
  body_reply (ask.Read body) e = cc

  pub same_reply : changes_account x.body ≡ true → (decide facts history x p).reply ≡ (decide facts history x q).reply
  unfolding decide
  same_reply changing = body_reply x.body changing

  body_entry : (body : AskBody) → changes_account body ≡ true → (decide_body facts history x body p).entry ≡ (decide_body facts history x body q).entry
  body_entry (ask.Change body) e = entry_same _ (unless (lacking (length history) x.after) (change_outcome (view_of facts history x no_places) body)) p q
  body_entry (ask.Read body) e = cc

  pub same_entry : changes_account x.body ≡ true → (decide facts history x p).entry ≡ (decide facts history x q).entry
  unfolding decide
  same_entry changing = body_entry x.body changing

-- ---- where a line stands

pub places_at : (line new : Line) (places : Places) → places.number ≡ line.pass_number → new ≡ line_at line places → places_of new ≡ places
places_at line new places same is = ap places_of is ∙ (λ i. record { number = sym same i; words = places.words; ivs = places.ivs })

-- one that stays where it is has gone nowhere past a decision
stays_at : (facts : RealmFacts) (history : List Entry) (x : Ask) (line : Line) → IsWithin line line (decide facts history x (places_of line)).places
stays_at facts history x line =
    let on = decide_goes_on facts history x (places_of line) in
    record {
      seed = refl;
      boot = refl;
      up_to = record { number = refl; words_from = omega arith; words_to = on.words_from; ivs_from = omega arith; ivs_to = on.ivs_from };
    }

pub stays_within : {A E : Type 0} (result : Result A E) (facts : RealmFacts) (history : List Entry) (x : Ask) (line : Line)
    → OnErr result (IsWithin line line (decide facts history x (places_of line)).places)
stays_within (Ok v) facts history x line = tt
stays_within (Err e) facts history x line = stays_at facts history x line
