-- What the calls of a connection do.
use Rattle.std.specs.Prelude.{◌≡◌, ◌<◌, ◌≤◌, ℕ, List, [], ◌∷◌, length, take, IfSome}
use Rattle.kms_io.specs.Wire.{Wire, with_more, with_first, RoseBy, TellsMore}
use Rattle.kms_io.specs.declared.link.Move.TheVariants as move
use Rattle.kms_io.specs.declared.link.Took.{Took}
use Rattle.kms_io.specs.declared.link.Took.TheVariants.{Got, End, Failed}
use Rattle.kms_io.specs.declared.link.Put.{Put}
use Rattle.kms_io.specs.declared.link.Put.TheVariants as put

-- these bytes were taken, and what goes the other way is as it was
pub record Takes (old new : Wire) (bytes : List ℕ) : Type 0 where
  pub taken : new.taken ≡ with_more old.taken bytes
  pub left : old.left ≡ with_first bytes new.left
  pub faults : old.read_faults ≤ new.read_faults
  pub written : new.written ≡ old.written
  pub write_faults : new.write_faults ≡ old.write_faults

-- these bytes were written, and what goes the other way is as it was
pub record Sends (old new : Wire) (bytes : List ℕ) : Type 0 where
  pub written : new.written ≡ with_more old.written bytes
  pub faults : old.write_faults ≤ new.write_faults
  pub taken : new.taken ≡ old.taken
  pub left : new.left ≡ old.left
  pub read_faults : new.read_faults ≡ old.read_faults

-- nothing is left to come, where that is told
abbrev pub IsAtEnd : Wire → Type 0
IsAtEnd wire = IfSome wire.left (λ left. left ≡ [])

-- a read into this room
abbrev pub Reads : Wire → List ℕ → Took → Wire → Type 0
Reads old room (Got n) new = (0 < n) × (n ≤ length room) × Takes old new (take n room) × TellsMore old.moves (move.In n ∷ []) new.moves
Reads old room End new = IsAtEnd old × Takes old new [] × TellsMore old.moves [] new.moves
Reads old room Failed new = RoseBy 1 old.read_faults new.read_faults × Takes old new [] × TellsMore old.moves [] new.moves

-- a write of a front of this piece
abbrev pub Writes : Wire → List ℕ → Put → Wire → Type 0
Writes old piece (put.Wrote n) new = (0 < n) × (n ≤ length piece) × Sends old new (take n piece) × TellsMore old.moves (move.Out n ∷ []) new.moves
Writes old piece put.Failed new = RoseBy 1 old.write_faults new.write_faults × Sends old new [] × TellsMore old.moves [] new.moves
