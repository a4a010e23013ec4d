-- How far an answer lets the line of draws go.
use Rattle.std.proofs.Common.{◌≡◌, List, subst, sym, refl, arith, Result, Ok, Err}
use Rattle.std.specs.Result.{IsErr}
use Rattle.std.proofs.lemmas.Bool.{false≢true}
use Rattle.kms_names.specs.declared.faults.NoMemory.{NoMemory as Starved}
use Rattle.draw_lines.specs.Line.{Line}
use Rattle.kms_json.specs.declared.asks.Ask.{Ask}
use Rattle.account_steps.specs.declared.facts.RealmFacts.{RealmFacts}
use Rattle.account_steps.specs.History.{Entry}
use Rattle.account_steps.specs.declared.places.Places.{Places}
use Rattle.account_steps.specs.Places.{IsWithin, places_of, line_at}
use Rattle.account_core.specs.Decide.{decide}
use Rattle.account_core.proofs.GoingOn.{decide_goes_on}
use Rattle.published_account.specs.declared.answered.Answered.{Answered}
use Rattle.published_account.specs.Reading.{Settles}

-- a line that has gone where a decision leaves it has gone on at most so far
pub went_on : (facts : RealmFacts) (entries : List Entry) (x : Ask) (old new : Line) → new ≡ line_at old (decide facts entries x (places_of old)).places
    → IsWithin old new (decide facts entries x (places_of old)).places
went_on facts entries x old new is =
    let after : Places = (decide facts entries x (places_of old)).places in
    let on = decide_goes_on facts entries x (places_of old) in
    subst (λ (l : Line). IsWithin old l after) (sym is)
    (record {
      seed = refl;
      boot = refl;
      up_to = record { number = refl; words_from = on.words_from; words_to = omega arith; ivs_from = on.ivs_from; ivs_to = omega arith };
    })

-- an error leaves the line so far at most
pub settles_err : (facts : RealmFacts) (entries : List Entry) (x : Ask) (old new : Line) (r : Result Answered Starved) → IsErr r
    → IsWithin old new (decide facts entries x (places_of old)).places → Settles facts entries x old r new
settles_err facts entries x old new (Ok a) is within = absurd (false≢true is)
settles_err facts entries x old new (Err why) is within = within
