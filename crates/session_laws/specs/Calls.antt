-- What sessions and workers do is calls of their passes.
use Rattle.std.specs.Prelude.{◌≡◌, ℕ, ◌<◌, List, [], ◌∷◌, length, map, drop, All, Bool}
use Rattle.kms_names.specs.Moment.{year_10000}
use Rattle.account_steps.specs.declared.facts.RealmFacts.{RealmFacts}
use Rattle.account_steps.specs.History.{Entry}
use Rattle.account_core.specs.Account.{Account}
use Rattle.account_laws.specs.Laws.{IsOpened}
use Rattle.publish_pass.specs.Pass.{Pass, fresh_passes}
use Rattle.pass_laws.specs.Calls.{Calls, Together}
use Rattle.pass_laws.specs.Events.{AreOneRun}
use Rattle.pass_laws.specs.Machine.{places_of_maker}
use Rattle.pass_laws.specs.Orders.{steps_of, steps_in}
use Rattle.session_front.specs.declared.trust.Trust.{Trust}
use Rattle.session_front.specs.declared.ends.SessionEnd.{SessionEnd}
use Rattle.session_front.specs.Callers.{IsOfAccount}
use Rattle.session_front.specs.Items.{Item}
use Rattle.kms_session.specs.Run.{Turn, SessionRun}
use Rattle.kms_session.specs.Session.{Outside, EndsBy}
use Rattle.kms_server.specs.declared.crew.Kept.{Kept}
use Rattle.kms_server.specs.declared.server.Served.{Served}
use Rattle.kms_server.specs.Work.{WorkerState, Works}
use Rattle.kms_server.specs.Crew.{Pairwise, none, both, FirstHolds}
use Rattle.kms_server.specs.Server.{Wanted, Surroundings, ServesDoor}

-- a turn is no call, or one
abbrev pub TurnsAreCalls : Type 0
TurnsAreCalls =
    (keeping : Bool) (trust : Trust) (item : Item) (c : ℕ) (closes : Bool) (text : List ℕ) (s t : Pass) → IsOfAccount s.facts.account trust → c < year_10000
    → Turn keeping s trust item c closes text t → Calls s t

abbrev pub RunsAreCalls : Type 0
RunsAreCalls =
    (keeping : Bool) (trust : Trust) (start end : Pass) (items : List Item) (clocks text : List ℕ) → IsOfAccount start.facts.account trust
    → SessionRun keeping start trust end items clocks text → Calls start end

-- a session, however it ends
abbrev pub SessionsAreCalls : Type 0
SessionsAreCalls = (keeping : Bool) (trust : Trust) (end : SessionEnd) (old new : Outside) → IsOfAccount old.state.facts.account trust → EndsBy keeping trust end old new → Calls old.state new.state

-- a worker, over all its connections
abbrev pub WorkersAreCalls : Type 0
WorkersAreCalls =
    (keeping : Bool) (trust : Trust) (connections : ℕ) (start end : WorkerState) → IsOfAccount start.pass.facts.account trust → Works keeping trust connections start end → Calls start.pass end.pass

-- a server: what each of its workers did with one of the passes 1 to n of a service, which began with the entries of this account, from the first call to the last
abbrev pub ServersAreCalls : Type 0
ServersAreCalls =
    (keeping : Bool) (first : Account) (trust : Trust) (wanted : Wanted) (history : List (Entry × ℕ)) (served : Served) (kept : Kept) (old new : Surroundings) → IsOfAccount first.facts.account trust
    → (serves : ServesDoor keeping first trust wanted history served kept old new)
    → Pairwise (λ (fresh : Pass) (worker : WorkerState). Calls fresh worker.pass) (fresh_passes first.facts wanted.workers first.entries wanted.workers) serves.finishes.last

-- the own places of each of these workers' passes are exactly those at which the first one's history has its number, behind so many loaded entries
abbrev pub OwnWhatBearsTheirNumber : ℕ → List WorkerState → Type 0
OwnWhatBearsTheirNumber loaded [] = ⊥
OwnWhatBearsTheirNumber loaded (first ∷ others) =
    All (λ worker. worker.pass.own ≡ places_of_maker worker.pass.number loaded (drop loaded first.pass.history)) (first ∷ others)

-- In a server's history each entry behind the loaded ones is one worker's own: the passes' numbers are 1 to n, of which each such entry bears one, and what a worker's pass made
-- is exactly what bears its number
abbrev pub WorkersMadeAll : Type 0
WorkersMadeAll =
    (keeping : Bool) (first : Account) (trust : Trust) (wanted : Wanted) (history : List (Entry × ℕ)) (served : Served) (kept : Kept) (old new : Surroundings) → IsOfAccount first.facts.account trust
    → (serves : ServesDoor keeping first trust wanted history served kept old new)
    → (map (λ worker. worker.pass.number) serves.finishes.last ≡ map (λ pass. pass.number) (fresh_passes first.facts wanted.workers first.entries wanted.workers))
    × OwnWhatBearsTheirNumber (length first.entries) serves.finishes.last

-- of each of these workers, in order, what each of its calls met, and the pass as it left it
abbrev pub steps_by : {fresh : List Pass} {workers : List WorkerState} → Pairwise (λ (first : Pass) (worker : WorkerState). Calls first worker.pass) fresh workers
    → List (List (List (Entry × ℕ) × Pass))
steps_by none = []
steps_by (both calls others) = steps_of calls ∷ steps_by others

-- The calls of these workers, whose passes are 1 to n of a service that began with these entries, were made together in one order, by which the history of the first worker is
-- published. It leaves each pass as the worker has it, and the calls that a pass made in it are the worker's, one by one. So, where what was loaded is an opened account's,
-- they are one run of the machine
pub record RanTogether (facts : RealmFacts) (loaded : List Entry) (n : ℕ) (workers : List WorkerState)
    (did : Pairwise (λ (first : Pass) (worker : WorkerState). Calls first worker.pass) (fresh_passes facts n loaded n) workers) : Type 0 where
  pub history : List (Entry × ℕ)
  pub is_first : FirstHolds history workers
  pub passes : ℕ → Pass
  pub together : Together facts n loaded passes history
  pub last_are : map (λ fresh. passes fresh.number) (fresh_passes facts n loaded n) ≡ map (λ worker. worker.pass) workers
  pub calls_are : map (λ fresh. steps_in fresh.number together) (fresh_passes facts n loaded n) ≡ steps_by did
  pub is_run : IsOpened facts loaded → AreOneRun facts n loaded passes history

-- What a server does is one run of one machine: whatever calls its workers made with its passes, each from its new pass on (`ServersAreCalls` says that there are such calls),
-- those were made together
abbrev pub ServersAreOneRun : Type 0
ServersAreOneRun =
    (keeping : Bool) (first : Account) (trust : Trust) (wanted : Wanted) (history : List (Entry × ℕ)) (served : Served) (kept : Kept) (old new : Surroundings) → IsOfAccount first.facts.account trust
    → (serves : ServesDoor keeping first trust wanted history served kept old new)
    → (did : Pairwise (λ (fresh : Pass) (worker : WorkerState). Calls fresh worker.pass) (fresh_passes first.facts wanted.workers first.entries wanted.workers) serves.finishes.last)
    → RanTogether first.facts first.entries wanted.workers serves.finishes.last did
