-- What a door at TCP addresses shows.
use Rattle.std.specs.Prelude.{None}
use Rattle.kms_io.specs.Doorway.{Doorway}
use Rattle.kms_io.specs.declared.tcp_door.TcpDoor.{TcpDoor}

-- its count of faults, and nothing of what was asked or given back
abbrev pub counts_of : {R : Type 0} → TcpDoor R → Doorway
counts_of door = record {
  faults = door.faults;
  asked = None;
  is_open = None;
  given_back = None;
}
