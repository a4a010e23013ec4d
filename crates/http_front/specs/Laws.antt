-- Laws about messages at the front of bytes.
use Rattle.std.specs.Prelude.{◌≡◌, ◌≢◌, ◌⊎◌, ◌<◌, ◌==◌, ◌||◌, if◌then◌else◌, ℕ, zero, suc, List, [], ◌∷◌, ◌++◌, length, Bool, Err}
use Rattle.httparse.specs.Grammar.{RequestHead, NeverHasRequest}
use Rattle.http_front.specs.declared.judge.HttpFault.{HttpFault}
use Rattle.http_front.specs.Heading.{heading_of}
use Rattle.http_front.specs.Head.{IsHead}
use Rattle.http_front.specs.Judge.{judged}
use Rattle.http_front.specs.Message.{Message, HasHead, IsMessage, Awaits, IsOpen, IsRefused, IsCrowded}

-- the bytes begin with a message
abbrev pub HasMessage : List ℕ → Type 0
HasMessage bytes = (m : Message) × (text : List ℕ) × (rest : List ℕ) × IsMessage m text × (bytes ≡ text ++ rest)

-- no message begins another, and bytes begin with one message at most
abbrev pub OneMessage : Type 0
OneMessage =
    (m n : Message) (text other rest last : List ℕ) → IsMessage m text → IsMessage n other → text ++ rest ≡ other ++ last
    → (m ≡ n) × (text ≡ other) × (rest ≡ last)

-- no message is whole before the bytes are as many as is said
abbrev pub StillAwaited : Type 0
StillAwaited = (bytes piece : List ℕ) (whole : ℕ) → Awaits bytes whole → length (bytes ++ piece) < whole → Awaits (bytes ++ piece) whole

-- ---- the lines of a crowded head

abbrev pub is_end_byte : ℕ → Bool
is_end_byte c = c == 13 || c == 10

-- what stands behind the CR and LF bytes at the front
abbrev pub behind_ends : List ℕ → List ℕ
behind_ends [] = []
behind_ends (c ∷ bytes) = if is_end_byte c then behind_ends bytes else c ∷ bytes

-- what stands behind so many line feeds
abbrev pub behind_lines : ℕ → List ℕ → List ℕ
behind_lines zero bytes = bytes
behind_lines (suc n) [] = []
behind_lines (suc n) (c ∷ bytes) = if c == 10 then behind_lines n bytes else behind_lines (suc n) bytes

-- behind the CR and LF bytes at the front stand 65 lines, and then a byte that is neither CR nor LF
pub record HasManyLines (bytes : List ℕ) : Type 0 where
  pub first : ℕ
  pub rest : List ℕ
  pub is : behind_lines 65 (behind_ends bytes) ≡ first ∷ rest
  pub not_cr : first ≢ 13
  pub not_lf : first ≢ 10

-- a request line, 64 lines and the front of one more
abbrev pub CrowdedHasManyLines : Type 0
CrowdedHasManyLines = (bytes : List ℕ) → IsCrowded bytes → HasManyLines bytes

-- ---- one answer

-- What the bytes begin with decides the answer, but for this: bytes that no head can come of, or that are crowded, may also be read on;
-- and those that no head can come of may bear two faults.
pub record IsOneAnswer (bytes : List ℕ) : Type 0 where
  pub not_message_and_open : HasMessage bytes → IsOpen bytes → ⊥
  pub not_message_and_refused : (why : HttpFault) → HasMessage bytes → IsRefused bytes why → ⊥
  pub open_and_refused : (why : HttpFault) → IsOpen bytes → IsRefused bytes why → NeverHasRequest bytes ⊎ IsCrowded bytes
  pub two_faults : (why other : HttpFault) → IsRefused bytes why → IsRefused bytes other → (why ≡ other) ⊎ NeverHasRequest bytes

-- A whole head that has a fault is refused with that fault alone, and isn't read on.
pub record HasOneFault (bytes : List ℕ) (why : HttpFault) : Type 0 where
  pub not_open : IsOpen bytes → ⊥
  pub no_other : (other : HttpFault) → IsRefused bytes other → other ≡ why

abbrev pub OneFault : Type 0
OneFault =
    (bytes : List ℕ) (head : RequestHead) (rest : List ℕ) (why : HttpFault) → HasHead bytes head rest → judged (heading_of head) ≡ Err why → HasOneFault bytes why

abbrev pub OneAnswer : Type 0
OneAnswer = (bytes : List ℕ) → IsOneAnswer bytes

-- ---- one head

-- a status, the size of a body, a second, a number of entries, and whether the connection closes have one head
abbrev pub OneHead : Type 0
OneHead = (status size second front : ℕ) (closes : Bool) (text other : List ℕ) → IsHead status size second front closes text → IsHead status size second front closes other → text ≡ other
