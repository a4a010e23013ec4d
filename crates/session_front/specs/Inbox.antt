-- How bytes come into the buffer.
use Rattle.std.specs.Prelude.{◌≡◌, ◌<◌, ℕ, List, [], ◌∷◌, ◌++◌, length}
use Rattle.kms_io.specs.Wire.{Wire, RoseBy, TellsMore}
use Rattle.kms_io.specs.declared.link.Move.TheVariants.{In}
use Rattle.kms_io.specs.Link.{Takes, IsAtEnd}
use Rattle.kms_io.specs.declared.link.Took.{Took}
use Rattle.kms_io.specs.declared.link.Took.TheVariants.{Got, End, Failed}
use Rattle.session_front.specs.declared.waiting.Awaited.{Awaited}
use Rattle.session_front.specs.declared.waiting.Awaited.TheVariants as awaited
use Rattle.session_front.specs.Pace.{Gathers}
use Rattle.http_front.specs.Message.{Message, CutsOff, IsOpen, IsRefused}

-- how many bytes the buffer holds: those of the longest message, a head of 16,384 and a body of 131,072
abbrev pub inbox_room : ℕ
inbox_room = 147456

-- these bytes came from the link to the end of the buffer, by reads that each found it open
pub record Receives (old : Wire) (before : List ℕ) (new : Wire) (after : List ℕ) : Type 0 where
  pub bytes : List ℕ
  pub takes : Takes old new bytes
  pub grows : after ≡ before ++ bytes
  pub gathers : Gathers old.moves before bytes new.moves

-- one read brought so many bytes
pub record Gets (old : Wire) (before : List ℕ) (n : ℕ) (new : Wire) (after : List ℕ) : Type 0 where
  pub piece : List ℕ
  pub size : length piece ≡ n
  pub some : 0 < n
  pub takes : Takes old new piece
  pub grows : after ≡ before ++ piece
  pub moves : TellsMore old.moves (In n ∷ []) new.moves

-- one read brought nothing
pub record GetsNothing (old : Wire) (before : List ℕ) (new : Wire) (after : List ℕ) : Type 0 where
  pub takes : Takes old new []
  pub same : after ≡ before
  pub moves : TellsMore old.moves [] new.moves

-- what one read did
abbrev pub Fills : Wire → List ℕ → Took → Wire → List ℕ → Type 0
Fills old before (Got n) new after = Gets old before n new after
Fills old before End new after = GetsNothing old before new after × IsAtEnd new
Fills old before Failed new after = GetsNothing old before new after × RoseBy 1 old.read_faults new.read_faults

-- what the buffer begins with, once no further read is needed or possible
abbrev pub Finds : Wire → Wire → List ℕ → Awaited → Type 0
Finds old new buffer (awaited.Message cut) = (m : Message) × CutsOff buffer cut m
Finds old new buffer (awaited.Bad fault) = IsRefused buffer fault
Finds old new buffer awaited.End = IsOpen buffer × IsAtEnd new
Finds old new buffer awaited.Failed = IsOpen buffer × RoseBy 1 old.read_faults new.read_faults
