-- What a door shows whose ears may wait, and what these show.
use Rattle.std.specs.Prelude.{None}
use Rattle.kms_io.specs.Doorway.{Doorway}
use Rattle.kms_io.specs.Listening.{Listening}
use Rattle.kms_io.specs.MemoryEar.{listening_of}
use Rattle.server_cases.specs.declared.late.LateEar.{LateEar}
use Rattle.server_cases.specs.declared.late.LateDoor.{LateDoor}

-- what the ear in memory shows
abbrev pub heard_by : {W : Type 0} → LateEar W → Listening
heard_by late = listening_of late.ear

-- its count of faults, and nothing of what was asked or given back
abbrev pub counts_of : {W : Type 0} → LateDoor W → Doorway
counts_of door = record {
  faults = door.faults;
  asked = None;
  is_open = None;
  given_back = None;
}
