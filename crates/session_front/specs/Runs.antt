-- A session as a run of steps over what is due.
--
-- A step says which text may be written for an item: it relates a state, the item, the clock's answer, whether the session closes after
-- the text, the text, and the state that comes after it.
use Rattle.std.specs.Prelude.{◌≡◌, ◌<◌, ◌+◌, ℕ, List, [], ◌∷◌, ◌++◌, length, Bool, false, Option}
use Rattle.kms_names.specs.Moment.{year_10000}
use Rattle.kms_io.specs.Wire.{TellsMore}
use Rattle.kms_io.specs.declared.link.Move.{Move}
use Rattle.kms_io.specs.declared.link.Move.TheVariants.{In, Out}
use Rattle.http_front.specs.Message.{IsOpen}
use Rattle.session_front.specs.Items.{Item, Cuts, closes_at}

-- A run of steps over the items in order, each with its answer of the clock, which is before the year 10000. The text is the texts of
-- the steps joined.
pub data Run {S : Type 0} (Step : S → Item → ℕ → Bool → List ℕ → S → Type 0) (start : S) : S → List Item → List ℕ → List ℕ → Type 0 where
  begins : Run Step start start [] [] []
  goes_on : {old new : S} {items : List Item} {clocks text reply : List ℕ} (item : Item) (c : ℕ) → c < year_10000
      → Run Step start old items clocks text → Step old item c (closes_at (length items) item) reply new
      → Run Step start new (items ++ item ∷ []) (clocks ++ c ∷ []) (text ++ reply)

-- the stream is cut into these items, none of which closes, and an open rest
abbrev pub IsOpenAfter : List ℕ → List Item → Type 0
IsOpenAfter stream items = (rest : List ℕ) × Cuts stream false items rest × IsOpen rest

-- A run over the items, with what has come and how many bytes were written, whose reads were each made where what had come was, behind
-- the items answered so far, open, and where all their replies were written.
pub data Paced {S : Type 0} (Step : S → Item → ℕ → Bool → List ℕ → S → Type 0) (start : S) (told : Option (List Move)) : S → List Item → List ℕ → List ℕ → List ℕ → ℕ → Option (List Move) → Type 0 where
  paced_from : Paced Step start told start [] [] [] [] 0 told
  then_read : {state : S} {items : List Item} {clocks text input all : List ℕ} {written : ℕ} {mid new : Option (List Move)} (piece : List ℕ)
      → Paced Step start told state items clocks text input written mid → written ≡ length text → IsOpenAfter input items
      → all ≡ input ++ piece → TellsMore mid (In (length piece) ∷ []) new → Paced Step start told state items clocks text all written new
  then_nothing : {state : S} {items : List Item} {clocks text input : List ℕ} {written : ℕ} {mid new : Option (List Move)}
      → Paced Step start told state items clocks text input written mid → written ≡ length text → IsOpenAfter input items
      → TellsMore mid [] new → Paced Step start told state items clocks text input written new
  then_answer : {old new : S} {items : List Item} {clocks text input reply : List ℕ} {written : ℕ} {mid : Option (List Move)} (item : Item) (c : ℕ) → c < year_10000
      → Paced Step start told old items clocks text input written mid → Step old item c (closes_at (length items) item) reply new
      → Paced Step start told new (items ++ item ∷ []) (clocks ++ c ∷ []) (text ++ reply) input written mid
  then_write : {state : S} {items : List Item} {clocks text input : List ℕ} {written all : ℕ} {mid new : Option (List Move)} (n : ℕ)
      → Paced Step start told state items clocks text input written mid → all ≡ written + n
      → TellsMore mid (Out n ∷ []) new → Paced Step start told state items clocks text input all new
