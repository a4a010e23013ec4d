-- Workers as the states that they are in.
use Rattle.std.specs.Prelude.{ℕ, List, Option, map}
use Rattle.kms_io.specs.Listening.{Listening}
use Rattle.kms_server.specs.declared.worker.Worker.{Worker}
use Rattle.kms_server.specs.Work.{WorkerState, worker_state}

-- by what clocks tell and what ears show
abbrev pub state_of : {R E C X : Type 0} → (C → Option (List ℕ)) → (E → Listening) → Worker R E C X → WorkerState
state_of told shows worker = worker_state worker.pass (told worker.clock) (shows worker.ear) worker.taken

abbrev pub states_of : {R E C X : Type 0} → (C → Option (List ℕ)) → (E → Listening) → List (Worker R E C X) → List WorkerState
states_of told shows crew = map (state_of told shows) crew
