-- What a connection over TCP shows.
use Rattle.std.specs.Prelude.{None}
use Rattle.kms_io.specs.Wire.{Wire}
use Rattle.kms_io.specs.declared.tcp_link.TcpLink.{TcpLink}

-- its counts of faults, and nothing of its bytes
abbrev pub counts_of : {R : Type 0} → TcpLink R → Wire
counts_of link = record {
  taken = None;
  written = None;
  left = None;
  moves = None;
  read_faults = link.read_faults;
  write_faults = link.write_faults;
}
