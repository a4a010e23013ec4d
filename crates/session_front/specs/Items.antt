-- What a stream asks, one thing after another.
use Rattle.std.specs.Prelude.{◌≡◌, ◌+◌, ◌==◌, ℕ, List, [], ◌∷◌, ◌++◌, length, Bool, true, false, ◌||◌}
use Rattle.http_front.specs.declared.judge.HttpFault.{HttpFault}
use Rattle.http_front.specs.Judge.{closes_after}
use Rattle.http_front.specs.Message.{Message, IsMessage, IsRefused}

-- what is answered: a message, or bytes that are refused
pub data Item : Type 0 where
  whole : Message → Item
  fault : HttpFault → Item

-- whether the reply to the item at this place, counted from 0, closes the session
abbrev pub closes_at : ℕ → Item → Bool
closes_at place (whole m) = closes_after m.head || (place + 1 == 100000)
closes_at place (fault why) = true

-- The stream is cut into these items, of which the last closes or none does, and this rest.
pub data Cuts (stream : List ℕ) : Bool → List Item → List ℕ → Type 0 where
  nothing : Cuts stream false [] stream
  message : {items : List Item} {rest text more : List ℕ} {m : Message} {closes : Bool}
      → Cuts stream false items rest → rest ≡ text ++ more → IsMessage m text → closes ≡ closes_at (length items) (whole m)
      → Cuts stream closes (items ++ whole m ∷ []) more
  no_message : {items : List Item} {rest : List ℕ} (why : HttpFault)
      → Cuts stream false items rest → IsRefused rest why → Cuts stream true (items ++ fault why ∷ []) rest
