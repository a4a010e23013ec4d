-- What a message is, and what a buffer begins with.
use Rattle.std.specs.Prelude.{◌≡◌, ◌<◌, ◌≤◌, ◌+◌, ℕ, List, length, take, drop, map, All, Ok, Err}
use Rattle.httparse.specs.Grammar.{RequestHead, print_request, ReadsRequest, HasNoRequest, NeverHasRequest, MayBecomeRequest}
use Rattle.httparse.specs.Spans.{RequestOverflows, RequestExceeds, header_bytes, IsHeaderWithin}
use Rattle.http_front.specs.declared.judge.HttpFault.{HttpFault}
use Rattle.http_front.specs.declared.judge.HttpFault.TheVariants.{BadHead, TooLong}
use Rattle.http_front.specs.declared.message.Step.{Step}
use Rattle.http_front.specs.declared.message.Step.TheVariants as step
use Rattle.http_front.specs.Heading.{Heading, heading_of}
use Rattle.http_front.specs.Judge.{judged, closes_after}
use Rattle.http_front.specs.Offsets.{Offsets, size_of}

-- what a message says
pub record Message : Type 0 where
  pub head : Heading
  pub body : List ℕ

-- The bytes begin with this head, and then these follow. A head is one that `httparse` states, of at most 64 headers and 16,384 bytes.
pub record HasHead (bytes : List ℕ) (head : RequestHead) (rest : List ℕ) : Type 0 where
  pub reads : ReadsRequest bytes head rest
  pub few : length head.fields ≤ 64
  pub short : length (print_request head) ≤ 16384

-- the bytes of a message: a head without fault, and a body of the size that it gives
pub record IsMessage (m : Message) (bytes : List ℕ) : Type 0 where
  pub head : RequestHead
  pub has : HasHead bytes head m.body
  pub says : m.head ≡ heading_of head
  pub size : judged m.head ≡ Ok (length m.body)

-- ---- a buffer that begins with no message yet

-- it is shorter than the longest head, begins with none, and may become one
pub record AwaitsHead (bytes : List ℕ) : Type 0 where
  pub few : length bytes < 16384
  pub none : HasNoRequest bytes
  pub goes_on : MayBecomeRequest bytes

-- it begins with a head without fault, whose message has so many bytes, and isn't so long
pub record AwaitsBody (bytes : List ℕ) (whole : ℕ) : Type 0 where
  pub head : RequestHead
  pub rest : List ℕ
  pub has : HasHead bytes head rest
  pub size : ℕ
  pub judged_size : judged (heading_of head) ≡ Ok size
  pub is_whole : whole ≡ length (print_request head) + size
  pub few : length rest < size

-- no message is whole, and none will be before the buffer has so many bytes
pub data Awaits (bytes : List ℕ) : ℕ → Type 0 where
  awaits_head : AwaitsHead bytes → Awaits bytes (length bytes + 1)
  awaits_body : {whole : ℕ} → AwaitsBody bytes whole → Awaits bytes whole

abbrev pub IsOpen : List ℕ → Type 0
IsOpen bytes = (whole : ℕ) × Awaits bytes whole

-- ---- a buffer that is refused

-- no head stands in as many bytes as a head may have
pub record HasLongHead (bytes : List ℕ) : Type 0 where
  pub many : 16384 ≤ length bytes
  pub none : HasNoRequest (take 16384 bytes)

-- a front of it, ended here, is a head of more than 64 headers, and however it goes on, it begins with no head of fewer
pub record IsCrowded (bytes : List ℕ) : Type 0 where
  pub exceeds : RequestExceeds 64 bytes
  pub overflows : RequestOverflows 64 bytes

-- the faults, each by its cause
pub data IsRefused (bytes : List ℕ) : HttpFault → Type 0 where
  hopeless : NeverHasRequest bytes → IsRefused bytes BadHead
  long_head : HasLongHead bytes → IsRefused bytes TooLong
  crowded : IsCrowded bytes → IsRefused bytes TooLong
  at_fault : {head : RequestHead} {rest : List ℕ} {why : HttpFault} → HasHead bytes head rest → judged (heading_of head) ≡ Err why → IsRefused bytes why

-- ---- the cut of a message

-- the bytes begin with this message, and its parts stand at these places
pub record CutsOff (bytes : List ℕ) (cut : Offsets) (m : Message) : Type 0 where
  pub within : size_of cut ≤ length bytes
  pub message : IsMessage m (take (size_of cut) bytes)
  pub fields : map (header_bytes bytes) cut.headers ≡ m.head.fields
  pub fields_within : All (IsHeaderWithin (length bytes)) cut.headers
  pub body : take cut.body (drop cut.head bytes) ≡ m.body
  pub closes : cut.closes ≡ closes_after m.head

-- what the bytes begin with
abbrev pub Begins : List ℕ → Step → Type 0
Begins bytes (step.Message cut) = (m : Message) × CutsOff bytes cut m
Begins bytes (step.NeedMore whole) = Awaits bytes whole
Begins bytes (step.Bad why) = IsRefused bytes why
