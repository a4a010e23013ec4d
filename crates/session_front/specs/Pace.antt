-- What a link shows of reads and writes, one after another.
use Rattle.std.specs.Prelude.{◌≡◌, ◌+◌, ℕ, List, [], ◌∷◌, ◌++◌, length, Option}
use Rattle.kms_io.specs.Wire.{TellsMore}
use Rattle.kms_io.specs.declared.link.Move.{Move}
use Rattle.kms_io.specs.declared.link.Move.TheVariants.{In, Out}
use Rattle.http_front.specs.Message.{IsOpen}

-- these bytes came behind those before, by reads that each found an open buffer
pub data Gathers (told : Option (List Move)) (before : List ℕ) : List ℕ → Option (List Move) → Type 0 where
  no_read : Gathers told before [] told
  one_read : {bytes all : List ℕ} {mid new : Option (List Move)} (piece : List ℕ) → Gathers told before bytes mid → IsOpen (before ++ bytes)
      → all ≡ bytes ++ piece → TellsMore mid (In (length piece) ∷ []) new → Gathers told before all new
  no_bytes : {bytes : List ℕ} {mid new : Option (List Move)} → Gathers told before bytes mid → IsOpen (before ++ bytes) → TellsMore mid [] new → Gathers told before bytes new

-- so many bytes were written
pub data PutsOut (told : Option (List Move)) : ℕ → Option (List Move) → Type 0 where
  no_write : PutsOut told 0 told
  one_write : {n all : ℕ} {mid new : Option (List Move)} (m : ℕ) → PutsOut told n mid → all ≡ n + m → TellsMore mid (Out m ∷ []) new → PutsOut told all new
