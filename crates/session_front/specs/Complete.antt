-- Whole messages are answered, each once, and a session ends in one way.
use Rattle.std.specs.Prelude.{◌≡◌, ◌⊎◌, ℕ, List, [], ◌∷◌, ◌++◌, length, Bool, true, false, Some}
use Rattle.httparse.specs.Grammar.{NeverHasRequest}
use Rattle.kms_io.specs.Wire.{RoseBy, with_more}
use Rattle.http_front.specs.Message.{Message, IsMessage, IsCrowded}
use Rattle.session_front.specs.declared.ends.SessionEnd.{SessionEnd}
use Rattle.session_front.specs.declared.ends.SessionEnd.TheVariants.{Ended, Closed, NoMemory}
use Rattle.session_front.specs.Items.{Item, whole, closes_at}
use Rattle.session_front.specs.Runs.{Run}
use Rattle.session_front.specs.Session.{Outside, EndsBetween, EndsClosed, EndsInside}

-- The stream begins with these messages, each where the one before it ended, and goes on with this rest. The last of them closes, or
-- none does.
pub data IsMadeOf (stream : List ℕ) : Bool → List Item → List ℕ → Type 0 where
  no_message_yet : IsMadeOf stream false [] stream
  one_message_more : {items : List Item} {rest text more : List ℕ} {m : Message} {closes : Bool}
      → IsMadeOf stream false items rest → rest ≡ text ++ more → IsMessage m text → closes ≡ closes_at (length items) (whole m)
      → IsMadeOf stream closes (items ++ whole m ∷ []) more

-- the bytes are these messages and no more, or these up to one that closes
pub record IsAsked (input : List ℕ) (closes : Bool) (items : List Item) : Type 0 where
  pub rest : List ℕ
  pub made : IsMadeOf input closes items rest
  pub all : closes ≡ false → rest ≡ []

-- how a session ends of which the last message closes, or none does
abbrev pub end_of : Bool → SessionEnd
end_of true = Closed
end_of false = Ended

-- ---- one end

-- the bytes taken before and after are told
pub record TellsTaken {S : Type 0} (old new : Outside S) : Type 0 where
  pub before : List ℕ
  pub after : List ℕ
  pub tells_before : old.wire.taken ≡ Some before
  pub tells_after : new.wire.taken ≡ Some after

-- No two of the ends that are no faults hold of one session, but for this: a session whose rest no head can come of, or has more
-- than 64 headers, may be cut off or closed.
pub record IsOneEnd {S : Type 0} (Step : S → Item → ℕ → Bool → List ℕ → S → Type 0) (old new : Outside S) : Type 0 where
  pub not_ended_and_closed : EndsBetween Step old new → EndsClosed Step old new → ⊥
  pub not_ended_and_cut_off : EndsBetween Step old new → EndsInside Step old new → ⊥
  pub cut_off_and_closed : (inside : EndsInside Step old new) → EndsClosed Step old new → NeverHasRequest inside.rest ⊎ IsCrowded inside.rest

-- ---- each message is answered

-- the link has these bytes to give, and neither count of its faults rises
pub record IsUndisturbed {S : Type 0} (old new : Outside S) (input : List ℕ) : Type 0 where
  pub gives : old.wire.left ≡ Some input
  pub reads : ¬ (RoseBy 1 old.wire.read_faults new.wire.read_faults)
  pub writes : ¬ (RoseBy 1 old.wire.write_faults new.wire.write_faults)

-- what was written are the texts of steps over these items, one for each and in order, and nothing else
pub record AnswersEach {S : Type 0} (Step : S → Item → ℕ → Bool → List ℕ → S → Type 0) (items : List Item) (old new : Outside S) : Type 0 where
  pub clocks : List ℕ
  pub text : List ℕ
  pub run : Run Step old.state new.state items clocks text
  pub written : new.wire.written ≡ with_more old.wire.written text

-- Where nothing disturbs the session, each message that it is asked is answered, and it ends as they say; or it wants memory, and then it
-- is this.
abbrev pub IsComplete : {S : Type 0} → (S → Item → ℕ → Bool → List ℕ → S → Type 0) → Type 0 → SessionEnd → Outside S → Outside S → Type 0
IsComplete Step Wants end old new =
    (input : List ℕ) (closes : Bool) (items : List Item) → IsUndisturbed old new input → IsAsked input closes items
    → ((end ≡ NoMemory) × Wants) ⊎ ((end ≡ end_of closes) × AnswersEach Step items old new)
