-- What one worker does.
use Rattle.std.specs.Prelude.{◌≡◌, ◌<◌, ◌+◌, ℕ, List, [], ◌∷◌, Option, Some, None, Bool, true, false}
use Rattle.kms_names.specs.Moment.{year_10000}
use Rattle.kms_io.specs.Wire.{Wire, TellsMore, RoseBy}
use Rattle.kms_io.specs.Listening.{Listening}
use Rattle.kms_io.specs.Ear.{IsNewWire, KeepsGivenBack, TakesBack}
use Rattle.publish_pass.specs.Pass.{Pass, Learns, WantsHouse}
use Rattle.session_front.specs.declared.trust.Trust.{Trust}
use Rattle.session_front.specs.declared.ends.SessionEnd.{SessionEnd}
use Rattle.session_front.specs.Session.{outside}
use Rattle.kms_session.specs.Session.{EndsBy}
use Rattle.kms_session.specs.Complete.{IsComplete}

-- what a worker's pass holds, what its clock and its ear show, and how many connections it took
pub record WorkerState : Type 0 where
  pub pass : Pass
  pub clock : Option (List ℕ)
  pub ear : Listening
  pub taken : ℕ

abbrev pub worker_state : Pass → Option (List ℕ) → Listening → ℕ → WorkerState
worker_state pass clock ear taken = record { pass = pass; clock = clock; ear = ear; taken = taken }

-- a connection came, of which this is what it shows; or the ear failed 16 times in a row
abbrev pub Awaits : {L : Type 0} → (L → Wire) → Listening → Option L → Listening → Type 0
Awaits wire old (Some connection) new = IsNewWire (wire connection) × (new.is_out ≡ true) × KeepsGivenBack old new
Awaits wire old None new = RoseBy 16 old.faults new.faults × (new.is_out ≡ false) × KeepsGivenBack old new

-- A connection that shows this is served to its end, by a service that keeps its changes or doesn't, and given back; where nothing disturbs its session, each of its messages is answered.
-- Before its session the pass may learn more of the history; after it housekeeping is done at one more answer of the clock, or for want of memory at most that.
pub record Attends (keeping : Bool) (trust : Trust) (old : WorkerState) (wire : Wire) (new : WorkerState) : Type 0 where
  pub met : Pass
  pub learns : Learns old.pass met
  pub end : SessionEnd
  pub left : Pass
  pub told : Option (List ℕ)
  pub last : Wire
  pub ends : EndsBy keeping trust end (outside wire old.clock met) (outside last told left)
  pub complete : IsComplete keeping trust end (outside wire old.clock met) (outside last told left)
  pub back : TakesBack old.ear last new.ear
  pub moment : ℕ
  pub before_year_10000 : moment < year_10000
  pub tells : TellsMore told (moment ∷ []) new.clock
  pub house : WantsHouse left moment new.pass
  pub taken : new.taken ≡ old.taken

-- a worker takes one connection, which is new, and serves it
pub record TakesOne (keeping : Bool) (trust : Trust) (old new : WorkerState) : Type 0 where
  pub heard : Listening
  pub wire : Wire
  pub is_new : IsNewWire wire
  pub is_out : heard.is_out ≡ true
  pub keeps : KeepsGivenBack old.ear heard
  pub served : WorkerState
  pub attends : Attends keeping trust (record old { ear = heard }) wire served
  pub one_more : new ≡ record served { taken = served.taken + 1 }

-- a worker's ear fails 16 times in a row, and nothing else changes
pub record GivesUp (old new : WorkerState) : Type 0 where
  pub rose : RoseBy 16 old.ear.faults new.ear.faults
  pub keeps : KeepsGivenBack old.ear new.ear
  pub is_in : new.ear.is_out ≡ false
  pub others : new ≡ record old { ear = new.ear }

-- a worker takes connections one after another
pub data WorkerRun (keeping : Bool) (trust : Trust) (start : WorkerState) : WorkerState → Type 0 where
  begins : WorkerRun keeping trust start start
  goes_on : {old new : WorkerState} → WorkerRun keeping trust start old → TakesOne keeping trust old new → WorkerRun keeping trust start new

-- it takes so many, or gives up before
pub data Works (keeping : Bool) (trust : Trust) (connections : ℕ) (start : WorkerState) : WorkerState → Type 0 where
  takes_all : {end : WorkerState} → WorkerRun keeping trust start end → end.taken ≡ connections → end.ear.is_out ≡ false → Works keeping trust connections start end
  gives_up : {last end : WorkerState} → WorkerRun keeping trust start last → last.taken < connections → GivesUp last end → Works keeping trust connections start end
