-- Texts that are written, whole or cut short.
use Rattle.std.specs.Prelude.{◌≡◌, ◌<◌, ◌++◌, ℕ, List, length}
use Rattle.kms_io.specs.Wire.{Wire, RoseBy}
use Rattle.kms_io.specs.Link.{Sends}
use Rattle.session_front.specs.Pace.{PutsOut}

-- the text was written whole
pub record SendsWhole (old new : Wire) (text : List ℕ) : Type 0 where
  pub sends : Sends old new text
  pub out : PutsOut old.moves (length text) new.moves

-- the link failed after the front of the text was written
pub record SendsShort (old new : Wire) (text : List ℕ) : Type 0 where
  pub front : List ℕ
  pub cut : List ℕ
  pub split : text ≡ front ++ cut
  pub some : 0 < length cut
  pub sends : Sends old new front
  pub rose : RoseBy 1 old.write_faults new.write_faults

-- a text of this kind was written
pub record Writes (Is : List ℕ → Type 0) (old new : Wire) : Type 0 where
  pub text : List ℕ
  pub is : Is text
  pub sends : SendsWhole old new text

-- a front of it was written, and then the link failed
pub record WritesShort (Is : List ℕ → Type 0) (old new : Wire) : Type 0 where
  pub text : List ℕ
  pub is : Is text
  pub short : SendsShort old new text
