-- Calls of passes are events of the machine.
use Rattle.std.specs.Prelude.{◌≡◌, ◌≢◌, ℕ, List, take, All}
use mathlib.Core.List.{IsPrefix}
use Rattle.account_steps.specs.declared.facts.RealmFacts.{RealmFacts}
use Rattle.account_steps.specs.History.{Entry}
use Rattle.publish_pass.specs.Pass.{Pass}
use Rattle.account_laws.specs.Laws.{IsOpened}
use Rattle.pass_laws.specs.Machine.{State, Event, house, change, read, starved, learn, start, IsNumber, Runs, Holds}
use Rattle.pass_laws.specs.Calls.{Call, Together}

-- the number of the pass that does it
abbrev pub doer : Event → ℕ
doer (house n clock) = n
doer (change n x) = n
doer (read n x k) = n
doer (starved n x k left) = n
doer (learn n k) = n

-- what a state of the machine has under the number of a pass is what the pass holds: the history that it has seen, the places of its own entries, and
-- what it has used
pub record Has (facts : RealmFacts) (p : ℕ) (s : State) (pass : Pass) : Type 0 where
  pub facts_are : pass.facts ≡ facts
  pub passes_are : pass.passes ≡ p
  pub number : IsNumber p pass.number
  pub history : pass.history ≡ take (s.seen pass.number) s.history
  pub own : pass.own ≡ s.own pass.number
  pub places : pass.places ≡ s.places pass.number

-- Events of that pass alone lead from the state to one that has what the pass then holds, in which this is published. What the machine has of every
-- other pass stays.
pub record IsDoneBy (facts : RealmFacts) (p : ℕ) (s : State) (published : List (Entry × ℕ)) (old new : Pass) : Type 0 where
  pub events : List Event
  pub by_the_pass : All (λ event. doer event ≡ old.number) events
  pub after : State
  pub runs : Runs facts p s events after
  pub is_published : after.history ≡ published
  pub has : Has facts p after new
  pub same_pass : new.number ≡ old.number
  pub others : (other : Pass) → other.number ≢ old.number → Has facts p s other → Has facts p after other

-- Each call of a pass is a list of events of that pass, at every state that a run of the machine reaches and that has what the pass held: where what the
-- call met is a front of the published history and the pass then holds no more, nothing is published; where it met all of it, what the pass then holds
-- is published.
abbrev pub CallsAreEvents : Type 0
CallsAreEvents =
    (facts : RealmFacts) (p : ℕ) (loaded : List Entry) (before : List Event) (s : State) (old new : Pass) (met : List (Entry × ℕ))
    → IsOpened facts loaded → Runs facts p (start loaded) before s → Has facts p s old → Call old met new
    → (IsPrefix met s.history → new.history ≡ met → IsDoneBy facts p s s.history old new)
    × (met ≡ s.history → IsDoneBy facts p s new.history old new)

-- the state that some events lead to has what each of these passes holds, this is published there, and what holds of the machine holds
pub record AreOneRun (facts : RealmFacts) (p : ℕ) (loaded : List Entry) (passes : ℕ → Pass) (published : List (Entry × ℕ)) : Type 0 where
  pub events : List Event
  pub after : State
  pub runs : Runs facts p (start loaded) events after
  pub is_published : after.history ≡ published
  pub holds : Holds facts p loaded after
  pub number : (n : ℕ) → (passes n).number ≡ n
  pub has : (n : ℕ) → IsNumber p n → Has facts p after (passes n)

-- in whatever order the passes of a service make their calls, they are one run of the machine
abbrev pub PassesAreTheMachine : Type 0
PassesAreTheMachine =
    (facts : RealmFacts) (p : ℕ) (loaded : List Entry) (passes : ℕ → Pass) (published : List (Entry × ℕ)) → IsOpened facts loaded
    → Together facts p loaded passes published → AreOneRun facts p loaded passes published
