-- What a connection in memory does, call by call.
use Rattle.std.specs.Prelude.{◌≡◌, ℕ, List, length, min, slice_index, nat_eq, true, false, if◌then◌else◌}
use Rattle.kms_io.specs.Calls.{Calls, is_failing}
use Rattle.kms_io.specs.declared.link.Took.{Took}
use Rattle.kms_io.specs.declared.link.Took.TheVariants.{Got, End, Failed}
use Rattle.kms_io.specs.declared.link.Put.{Put}
use Rattle.kms_io.specs.declared.link.Put.TheVariants as put

-- its reads and writes, and the most bytes that each read gives; 0 stands for all that fit, and so does the end of the list
pub record Script : Type 0 where
  pub reads : Calls
  pub writes : Calls
  pub pieces : List ℕ

-- of so many bytes, as many as a piece of this size has
abbrev pub piece_of : ℕ → ℕ → ℕ
piece_of size most = if nat_eq size 0 then most else min most size

-- as many bytes as the piece has, of those that are left and fit into the room; or a call that is to fail
abbrev pub GivesPiece : Script → List ℕ → List ℕ → Took → Type 0
GivesPiece script room left (Got n) = (is_failing script.reads ≡ false) × (n ≡ piece_of (slice_index script.pieces script.reads.made) (min (length room) (length left)))
GivesPiece script room left End = is_failing script.reads ≡ false
GivesPiece script room left Failed = is_failing script.reads ≡ true

-- the whole piece, at a call that isn't to fail; it may fail at want of memory too
abbrev pub TakesPiece : Script → List ℕ → Put → Type 0
TakesPiece script piece (put.Wrote n) = (is_failing script.writes ≡ false) × (n ≡ length piece)
TakesPiece script piece put.Failed = Unit {0}
