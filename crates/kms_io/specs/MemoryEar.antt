-- What an ear in memory shows and does.
use Rattle.std.specs.Prelude.{◌≡◌, ◌⊎◌, List, [], ◌∷◌, Some, map, take, drop, nat_lt, true, false}
use Rattle.kms_io.specs.Calls.{Calls, is_failing}
use Rattle.kms_io.specs.Listening.{Listening}
use Rattle.kms_io.specs.MemoryLink.{wire_of}
use Rattle.kms_io.specs.declared.ear.Next.{Next}
use Rattle.kms_io.specs.declared.ear.Next.TheVariants.{Conn, Failed}
use Rattle.kms_io.specs.declared.memory_link.MemoryLink.{MemoryLink}
use Rattle.kms_io.specs.declared.memory_ear.MemoryEar.{MemoryEar}

abbrev pub listening_of : MemoryEar → Listening
listening_of m = record {
  faults = m.faults;
  is_out = nat_lt m.back m.given;
  given_back = Some (map wire_of (take m.back m.conns.items));
}

-- its calls of `next`
abbrev pub calls_of : MemoryEar → Calls
calls_of m = record { made = m.calls; failing = m.failing.items }

-- the connections that it hasn't given yet, in order
abbrev pub waiting_in : MemoryEar → List MemoryLink
waiting_in m = drop m.given m.conns.items

-- the first of those that wait; or a call that is to fail, or none that waits
abbrev pub GivesFirst : Calls → List MemoryLink → Next MemoryLink → List MemoryLink → Type 0
GivesFirst calls old (Conn conn) new = (is_failing calls ≡ false) × (old ≡ conn ∷ new)
GivesFirst calls old Failed new = ((is_failing calls ≡ true) ⊎ (old ≡ [])) × (new ≡ old)
