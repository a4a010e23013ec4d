-- What the workers of a server do together.
use Rattle.std.specs.Prelude.{◌≡◌, ◌↔◌, ℕ, ◌+◌, List, [], ◌∷◌, length, map, sum, All, IsTrue, Bool, true, false, Option}
use mathlib.Core.List.{IsPrefix}
use Rattle.account_steps.specs.declared.facts.RealmFacts.{RealmFacts}
use Rattle.account_steps.specs.History.{Entry}
use Rattle.kms_io.specs.Listening.{Listening}
use Rattle.kms_io.specs.Door.{IsNewEar}
use Rattle.account_core.specs.Account.{Account}
use Rattle.publish_pass.specs.Pass.{Pass, Learns, Meets}
use Rattle.published_account.specs.Pairs.{IsHistory, entries_of}
use Rattle.kms_server.specs.declared.crew.Kept.{Kept}
use Rattle.kms_server.specs.declared.crew.Kept.TheVariants as kept
use Rattle.kms_server.specs.declared.server.Served.{Served}
use Rattle.kms_server.specs.Work.{WorkerState}

-- these are related in order
pub data Pairwise {X Y : Type 0} (P : X → Y → Type 0) : List X → List Y → Type 0 where
  none : Pairwise P [] []
  both : {x : X} {y : Y} {xs : List X} {ys : List Y} → P x y → Pairwise P xs ys → Pairwise P (x ∷ xs) (y ∷ ys)

-- a worker for each of these passes and clocks, in order, each with an ear that is new, who has taken no connection yet
pub record IsCrew (passes : List Pass) (clocks : List (Option (List ℕ))) (crew : List WorkerState) : Type 0 where
  pub passes_are : map (λ worker. worker.pass) crew ≡ passes
  pub clocks_are : map (λ worker. worker.clock) crew ≡ clocks
  pub ears : All (λ worker. IsNewEar worker.ear) crew
  pub taken : All (λ worker. worker.taken ≡ 0) crew

-- a worker's pass comes to hold more of the history, and nothing else changes
pub record Settles (old new : WorkerState) : Type 0 where
  pub learns : Learns old.pass new.pass
  pub others : new ≡ record old { pass = new.pass }

-- all that any of them took
abbrev pub taken_by : List WorkerState → ℕ
taken_by crew = sum (map (λ worker. worker.taken) crew)

-- how many entries their passes made together
abbrev pub made_by : List WorkerState → ℕ
made_by crew = sum (map (λ worker. length worker.pass.own) crew)

-- each of them took so many
abbrev pub TookAll : ℕ → List WorkerState → Type 0
TookAll connections crew = All (λ worker. worker.taken ≡ connections) crew

-- a history of so many entries, of which so many were loaded, which is one of so many passes, and which begins with that of each of these workers
pub record BeginsAll (facts : RealmFacts) (passes loaded front : ℕ) (history : List (Entry × ℕ)) (crew : List WorkerState) : Type 0 where
  pub is_history : IsHistory facts passes loaded history
  pub size : front ≡ length history
  pub begins : All (λ worker. IsPrefix worker.pass.history history) crew

-- the first worker's history begins with that of each other
abbrev pub HoldsAll : List WorkerState → Type 0
HoldsAll [] = ⊥
HoldsAll (first ∷ others) = All (λ worker. IsPrefix worker.pass.history first.pass.history) others

-- the first worker's history is this one
abbrev pub FirstHolds : List (Entry × ℕ) → List WorkerState → Type 0
FirstHolds history [] = ⊥
FirstHolds history (first ∷ others) = first.pass.history ≡ history

-- the first worker's history has so many entries, and that of each other is a front of it
abbrev pub FirstIsLongest : RealmFacts → ℕ → ℕ → ℕ → List WorkerState → Type 0
FirstIsLongest facts passes loaded front [] = ⊥
FirstIsLongest facts passes loaded front (first ∷ others) = BeginsAll facts passes loaded front first.pass.history others

-- what a pass keeps of the account, where that is wanted or not
pub data KeepsOf (facts : RealmFacts) : Bool → Kept → Pass → Pass → Type 0 where
  keeps_nothing : {pass : Pass} → KeepsOf facts false kept.Nothing pass pass
  keeps_whole : {old new : Pass} (account : Account) → Meets old new → account.facts ≡ facts → account.entries ≡ entries_of new.history → KeepsOf facts true (kept.Whole account) old new
  lacks_memory : {old new : Pass} → Meets old new → KeepsOf facts true kept.NoMemory old new

-- the first worker's pass keeps that of the account, and nothing else changes
abbrev pub Keeps : RealmFacts → Bool → Kept → List WorkerState → List WorkerState → Type 0
Keeps facts wanted account (first ∷ others) (last ∷ rest) = KeepsOf facts wanted account first.pass last.pass × (last ≡ record first { pass = last.pass }) × (rest ≡ others)
Keeps facts wanted account _ _ = ⊥

-- After their work the passes of these workers only learn more of the history, and the first of them holds at last this one, all that another holds: what was
-- loaded, and then as many entries as all of them made together. The account of its history is kept where that is wanted. This is what was served, and what their ears show and
-- their clocks tell, in order.
pub record Finishes (facts : RealmFacts) (passes loaded connections : ℕ) (wanted : Bool) (history : List (Entry × ℕ)) (ends : List WorkerState) (served : Served) (account : Kept) (ears : List Listening)
    (clocks : List (Option (List ℕ))) : Type 0 where
  pub settled : List WorkerState
  pub settles : Pairwise Settles ends settled
  pub last : List WorkerState
  pub keeps : Keeps facts wanted account settled last
  pub longest : FirstIsLongest facts passes loaded served.front last
  pub holds : FirstHolds history last
  pub made : served.front ≡ made_by last + loaded
  pub taken : served.connections ≡ taken_by last
  pub whole : IsTrue served.is_whole ↔ TookAll connections last
  pub ears_are : ears ≡ map (λ worker. worker.ear) last
  pub clocks_are : clocks ≡ map (λ worker. worker.clock) last
