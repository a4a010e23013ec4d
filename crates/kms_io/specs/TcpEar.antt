-- What an ear at a TCP address shows.
use Rattle.std.specs.Prelude.{None}
use Rattle.kms_io.specs.Listening.{Listening}
use Rattle.kms_io.specs.declared.tcp_ear.TcpEar.{TcpEar}

-- its count of faults and whether a connection is out, and nothing of those given back
abbrev pub counts_of : {R : Type 0} → TcpEar R → Listening
counts_of ear = record {
  faults = ear.faults;
  is_out = ear.is_out;
  given_back = None;
}
