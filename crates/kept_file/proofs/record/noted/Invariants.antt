use Rattle.std.proofs.Common.{◌≡◌, take}
use Rattle.kept_file.specs.Events.{bytes_of}
use Rattle.kept_file.proofs.record.noted.Given as goal

abbrev pub invariant-loop-byte : goal.invariant-loop-byte
invariant-loop-byte l = bytes_of l.log.items ≡ take l.byte-index l.bytes
