-- How a session ends.
use Rattle.std.specs.Prelude.{◌∷◌, ◌++◌, ◌≡◌, ◌<◌, ◌≤◌, ℕ, List, [], length, Option, None, Some, Bool, true, false}
use Rattle.kms_names.specs.Moment.{year_10000}
use Rattle.kms_io.specs.Wire.{Wire, with_more, with_first, TellsMore, RoseBy}
use Rattle.kms_io.specs.Link.{IsAtEnd}
use Rattle.http_front.specs.Message.{IsOpen}
use Rattle.session_front.specs.declared.ends.SessionEnd.{SessionEnd}
use Rattle.session_front.specs.declared.ends.SessionEnd.TheVariants.{Ended, Closed, CutOff, ReadFault, WriteFault, NoMemory}
use Rattle.session_front.specs.Items.{Item, Cuts, closes_at}
use Rattle.session_front.specs.Sending.{SendsShort}
use Rattle.session_front.specs.Runs.{Run, Paced}

-- what a link and a clock tell, and the state of the session
pub record Outside (S : Type 0) : Type 0 where
  pub wire : Wire
  pub clock : Option (List ℕ)
  pub state : S

abbrev pub outside : {S : Type 0} → Wire → Option (List ℕ) → S → Outside S
outside wire clock state = record { wire = wire; clock = clock; state = state }

-- What was written is the text of a run over the items into which the bytes taken are cut, up to this rest. Each read was made where
-- no whole message waited for its answer, and no text to be written.
pub record Serves {S : Type 0} (Step : S → Item → ℕ → Bool → List ℕ → S → Type 0) (old new : Outside S) (closes : Bool) (count : ℕ) (rest : List ℕ) : Type 0 where
  pub input : List ℕ
  pub items : List Item
  pub clocks : List ℕ
  pub text : List ℕ
  pub number : length items ≡ count
  pub cuts : Cuts input closes items rest
  pub run : Run Step old.state new.state items clocks text
  pub paced : Paced Step old.state old.wire.moves new.state items clocks text input (length text) new.wire.moves
  pub taken : new.wire.taken ≡ with_more old.wire.taken input
  pub left : old.wire.left ≡ with_first input new.wire.left
  pub written : new.wire.written ≡ with_more old.wire.written text
  pub told : TellsMore old.clock clocks new.clock
  pub read_faults : old.wire.read_faults ≤ new.wire.read_faults
  pub write_faults : old.wire.write_faults ≤ new.wire.write_faults

-- no text closed, nothing is left to come, and what was taken ends between two messages
pub record EndsBetween {S : Type 0} (Step : S → Item → ℕ → Bool → List ℕ → S → Type 0) (old new : Outside S) : Type 0 where
  pub count : ℕ
  pub serves : Serves Step old new false count []
  pub at_end : IsAtEnd new.wire

-- a text that closes was written
pub record EndsClosed {S : Type 0} (Step : S → Item → ℕ → Bool → List ℕ → S → Type 0) (old new : Outside S) : Type 0 where
  pub count : ℕ
  pub rest : List ℕ
  pub serves : Serves Step old new true count rest

-- nothing is left to come, and what was taken ends in a message
pub record EndsInside {S : Type 0} (Step : S → Item → ℕ → Bool → List ℕ → S → Type 0) (old new : Outside S) : Type 0 where
  pub count : ℕ
  pub rest : List ℕ
  pub serves : Serves Step old new false count rest
  pub some : 0 < length rest
  pub awaits : IsOpen rest
  pub at_end : IsAtEnd new.wire

-- a read failed where no message was whole
pub record EndsUnread {S : Type 0} (Step : S → Item → ℕ → Bool → List ℕ → S → Type 0) (old new : Outside S) : Type 0 where
  pub count : ℕ
  pub rest : List ℕ
  pub serves : Serves Step old new false count rest
  pub awaits : IsOpen rest
  pub rose : RoseBy 1 old.wire.read_faults new.wire.read_faults

-- a session so far, and then one more step whose text was cut short
pub record BreaksOff {S : Type 0} (Step : S → Item → ℕ → Bool → List ℕ → S → Type 0) (old new : Outside S) : Type 0 where
  pub so_far : Outside S
  pub count : ℕ
  pub buffer : List ℕ
  pub rest : List ℕ
  pub item : Item
  pub c : ℕ
  pub closes : Bool
  pub serves : Serves Step old so_far false count buffer
  pub cuts : Cuts serves.input closes (serves.items ++ item ∷ []) rest
  pub is : closes ≡ closes_at count item
  pub before_year_10000 : c < year_10000
  pub told : TellsMore so_far.clock (c ∷ []) new.clock
  pub text : List ℕ
  pub step : Step so_far.state item c closes text new.state
  pub short : SendsShort so_far.wire new.wire text
  pub rose : RoseBy 1 old.wire.write_faults new.wire.write_faults

-- each end by its cause; for want of memory it is this
abbrev pub EndsBy : {S : Type 0} → (S → Item → ℕ → Bool → List ℕ → S → Type 0) → Type 0 → SessionEnd → Outside S → Outside S → Type 0
EndsBy Step Wants Ended old new = EndsBetween Step old new
EndsBy Step Wants Closed old new = EndsClosed Step old new
EndsBy Step Wants CutOff old new = EndsInside Step old new
EndsBy Step Wants ReadFault old new = EndsUnread Step old new
EndsBy Step Wants WriteFault old new = BreaksOff Step old new
EndsBy Step Wants NoMemory old new = Wants

-- the session goes on after one more message, or ends
abbrev pub GoesOn : {S : Type 0} → (S → Item → ℕ → Bool → List ℕ → S → Type 0) → Type 0 → Option SessionEnd → Outside S → Outside S → ℕ → List ℕ → Type 0
GoesOn Step Wants None old new count rest = Serves Step old new false count rest × (count < 100000)
GoesOn Step Wants (Some end) old new count rest = EndsBy Step Wants end old new
