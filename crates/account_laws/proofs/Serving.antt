-- A request that is served, by the outcome of its operation.
use Rattle.std.proofs.Common.{◌≡◌, List, length, Result, Ok, Err, refl, sym, ap, ◌∙◌}
use Rattle.kms_json.specs.declared.asks.Ask.{Ask}
use Rattle.kms_json.specs.declared.asks.AskBody.{AskBody}
use Rattle.kms_json.specs.declared.asks.AskBody.TheVariants as ask
use Rattle.kms_json.specs.declared.asks.Reading.{Reading}
use Rattle.kms_json.specs.declared.replies.Reply.{Reply}
use Rattle.kms_json.specs.declared.replies.Reply.TheVariants.{Refused}
use Rattle.kms_json.specs.declared.refusals.Refusal.{Refusal}
use Rattle.account_steps.specs.declared.facts.RealmFacts.{RealmFacts}
use Rattle.account_rows.specs.declared.entries.Entry.{Entry}
use Rattle.account_steps.specs.declared.places.Places.{Places}
use Rattle.account_steps.specs.View.{view_of}
use Rattle.account_steps.specs.Steps.{unless}
use Rattle.account_steps.specs.declared.places.Uses.{Uses}
use Rattle.account_steps.specs.Parts.{Outcome, Decided, decided_read, after}
use Rattle.account_core.specs.Operations.{read_outcome}
use Rattle.account_core.specs.Decide.{lacking, decide_body, decide}
use Rattle.account_steps.proofs.Passing.{next_of}

-- ---- a decision that serves

record IsServed (wanted : Result (Outcome Uses) Refusal) (places : Places) (r : Reply) (left : Places) : Type 0 where
  out : Outcome Uses
  is : wanted ≡ Ok out
  reply_is : out.reply ≡ r
  places_are : left ≡ after places out.effect

served_of : (wanted : Result (Outcome Uses) Refusal) (places : Places) (r : Reply) → ((why : Refusal) → Refused why ≡ r → ⊥) → (decided_read wanted places).reply ≡ r
    → IsServed wanted places r (decided_read wanted places).places
served_of (Ok out) places r serves e = record { out = out; is = refl; reply_is = e; places_are = refl }
served_of (Err why) places r serves e = absurd (serves why e)

-- a request that is served, by the outcome of its operation
pub record Serves (facts : RealmFacts) (history : List Entry) (x : Ask) (places : Places) (body : Reading) (r : Reply) : Type 0 where
  pub out : Outcome Uses
  pub is : read_outcome (view_of facts history x places) body ≡ Ok out
  pub reply_is : out.reply ≡ r
  pub places_are : (decide facts history x places).places ≡ after places out.effect

pub serves_of : (facts : RealmFacts) (history : List Entry) (x : Ask) (places : Places) (body : Reading) (r : Reply) → x.body ≡ ask.Read body
    → ((why : Refusal) → Refused why ≡ r → ⊥) → (decide facts history x places).reply ≡ r → Serves facts history x places body r
unfolding decide
serves_of facts history x places body r is serves e =
    let decided : decide_body facts history x x.body places ≡ decide_body facts history x (ask.Read body) places = ap (λ (b : AskBody). decide_body facts history x b places) is in
    let served = served_of (unless (lacking (length history) x.after) (read_outcome (view_of facts history x places) body)) places r serves (sym (ap (λ (d : Decided). d.reply) decided) ∙ e) in
    record {
      out = served.out;
      is = next_of (lacking (length history) x.after) (read_outcome (view_of facts history x places) body) served.out served.is;
      reply_is = served.reply_is;
      places_are = ap (λ (d : Decided). d.places) decided ∙ served.places_are;
    }
