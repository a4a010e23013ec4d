-- What a connection over another shows, to which nothing is written.
use Rattle.std.specs.Prelude.{◌≡◌, ℕ, List, Option, option_and_then, length}
use Rattle.kms_io.specs.Wire.{Wire, with_more}
use Rattle.kms_io.specs.declared.link.Move.{Move}
use Rattle.kms_io.specs.declared.link.Put.{Put}
use Rattle.kms_io.specs.declared.link.Put.TheVariants as put

-- the connection beneath showed `first` when it began, and shows `beneath` now. Since then so much was written, these calls moved
-- bytes, and so many writes failed
abbrev pub shown_over : Wire → Wire → List ℕ → Option (List Move) → ℕ → Wire
shown_over first beneath output moves write_faults = record {
  taken = beneath.taken;
  written = with_more beneath.written output;
  left = beneath.left;
  moves = option_and_then (λ since. with_more first.moves since) moves;
  read_faults = beneath.read_faults;
  write_faults = write_faults;
}

-- nothing was written to the connection beneath
pub record IsUnwritten (first beneath : Wire) : Type 0 where
  pub written : beneath.written ≡ first.written
  pub write_faults : beneath.write_faults ≡ first.write_faults

-- all that came through a connection that shows `quiet` came from the one beneath, which showed `first` at first, and nothing was
-- written to it
pub record LiesBeneath (first quiet beneath : Wire) : Type 0 where
  pub taken : beneath.taken ≡ quiet.taken
  pub left : beneath.left ≡ quiet.left
  pub read_faults : beneath.read_faults ≡ quiet.read_faults
  pub unwritten : IsUnwritten first beneath

-- a write takes the whole piece, or fails
abbrev pub TakesWhole : List ℕ → Put → Type 0
TakesWhole piece (put.Wrote n) = n ≡ length piece
TakesWhole piece put.Failed = Unit {0}
