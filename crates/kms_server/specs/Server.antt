-- What a server does.
use Rattle.std.specs.Prelude.{◌≡◌, ◌⊎◌, ℕ, List, ◌++◌, length, take, drop, Bool, IsTrue, Option, Some, None}
use Rattle.kms_io.specs.Wire.{RoseBy}
use Rattle.kms_io.specs.Listening.{Listening}
use Rattle.kms_io.specs.Doorway.{Doorway}
use Rattle.kms_io.specs.Door.{OpensFor, AsksFor, MayAskFor, Closes}
use Rattle.account_core.specs.Account.{Account}
use Rattle.account_steps.specs.History.{Entry}
use Rattle.published_account.specs.Pairs.{entries_of}
use Rattle.keepers.specs.Keeping.{IsKept}
use Rattle.publish_pass.specs.Pass.{fresh_passes}
use Rattle.session_front.specs.declared.trust.Trust.{Trust}
use Rattle.kms_server.specs.declared.crew.Kept.{Kept}
use Rattle.kms_server.specs.declared.server.Order.{Order}
use Rattle.kms_server.specs.declared.server.Outcome.{Outcome}
use Rattle.kms_server.specs.declared.server.Outcome.TheVariants as outcome
use Rattle.kms_server.specs.declared.server.Served.{Served}
use Rattle.kms_server.specs.Work.{WorkerState, Works}
use Rattle.kms_server.specs.Crew.{Pairwise, IsCrew, Finishes}

-- the address of a door, how many workers there are, how many connections each takes, and whether the account is kept
pub record Wanted : Type 0 where
  pub address : List ℕ
  pub workers : ℕ
  pub connections : ℕ
  pub keeps : Bool

abbrev pub wanted_by : Order → Wanted
wanted_by order = record { address = order.address.now; workers = order.workers; connections = order.connections; keeps = order.keeps }

-- what a door shows, and what the clocks tell, in order
pub record Surroundings : Type 0 where
  pub door : Doorway
  pub clocks : List (Option (List ℕ))

abbrev pub surroundings : Doorway → List (Option (List ℕ)) → Surroundings
surroundings door clocks = record { door = door; clocks = clocks }

-- The door was opened once, and each worker took its connections with a pass of one service, which began with the entries of this account and kept its changes or
-- didn't, and with a clock of its own. Their history at the end is this one. In the end the ears went back to the door and the clocks to their places.
pub record ServesDoor (keeping : Bool) (first : Account) (trust : Trust) (wanted : Wanted) (history : List (Entry × ℕ)) (served : Served) (account : Kept) (old new : Surroundings) : Type 0 where
  pub opened : Doorway
  pub asked : OpensFor old.door wanted.address wanted.workers opened
  pub crew : List WorkerState
  pub is_crew : IsCrew (fresh_passes first.facts wanted.workers first.entries wanted.workers) (take wanted.workers old.clocks) crew
  pub ends : List WorkerState
  pub work : Pairwise (Works keeping trust wanted.connections) crew ends
  pub ears : List Listening
  pub told : List (Option (List ℕ))
  pub finishes : Finishes first.facts wanted.workers (length first.entries) wanted.connections wanted.keeps history ends served account ears told
  pub closed : Closes opened ears new.door
  pub clocks : new.clocks ≡ told ++ drop wanted.workers old.clocks

-- the door was asked once and failed to open, and no clock was asked
pub record FindsShut (wanted : Wanted) (old new : Surroundings) : Type 0 where
  pub asked : AsksFor old.door wanted.address wanted.workers new.door
  pub rose : RoseBy 1 old.door.faults new.door.faults
  pub clocks : new.clocks ≡ old.clocks

-- for want of memory nobody worked: the door was asked at most once and did not open, and no clock was asked
pub record OpensNothing (wanted : Wanted) (old new : Surroundings) : Type 0 where
  pub asked : (new.door ≡ old.door) ⊎ MayAskFor old.door wanted.address wanted.workers new.door
  pub clocks : new.clocks ≡ old.clocks

-- what comes of what is wanted, with the history at the end
abbrev pub Fulfils : Bool → Account → Trust → Wanted → List (Entry × ℕ) → Outcome → Surroundings → Surroundings → Type 0
Fulfils keeping first trust wanted history (outcome.Served served account) old new = ServesDoor keeping first trust wanted history served account old new
Fulfils keeping first trust wanted history outcome.Shut old new = FindsShut wanted old new
Fulfils keeping first trust wanted history outcome.NoMemory old new = OpensNothing wanted old new

-- nobody was served
abbrev pub ServesNobody : Outcome → Type 0
ServesNobody (outcome.Served served account) = ⊥
ServesNobody outcome.Shut = Unit {0}
ServesNobody outcome.NoMemory = Unit {0}

-- what was served is kept, where anything is: the keeper is given back, and has kept the history at the end
abbrev pub KeepsServed : {K : Type 0} → Bool → (K → List Entry → Type 0) → (K → Bool) → (K → ℕ) → (K → ℕ → List ℕ → Type 0) → (List ℕ → List Entry → Type 0) → ℕ → ℕ → List (Entry × ℕ) → Outcome → Option K → Type 0
KeepsServed keeping tells is_open moment left_since reads started loaded history (outcome.Served served account) (Some keeper) =
    IsTrue keeping → IsKept tells is_open moment left_since reads started loaded keeper (entries_of history)
KeepsServed keeping tells is_open moment left_since reads started loaded history (outcome.Served served account) None = ⊥
KeepsServed keeping tells is_open moment left_since reads started loaded history outcome.Shut given = Unit {0}
KeepsServed keeping tells is_open moment left_since reads started loaded history outcome.NoMemory given = Unit {0}
