-- What a connection in memory shows.
use Rattle.std.specs.Prelude.{ℕ, List, Some, take, drop}
use Rattle.kms_io.specs.Wire.{Wire}
use Rattle.kms_io.specs.Script.{Script}
use Rattle.kms_io.specs.declared.memory_link.MemoryLink.{MemoryLink}

abbrev pub wire_of : MemoryLink → Wire
wire_of m = record {
  taken = Some (take m.at m.input.items);
  written = Some m.output.items;
  left = Some (drop m.at m.input.items);
  moves = m.moves;
  read_faults = m.read_faults;
  write_faults = m.write_faults;
}

-- the bytes still to come
abbrev pub left_of : MemoryLink → List ℕ
left_of m = drop m.at m.input.items

-- what it is going to do
abbrev pub script_of : MemoryLink → Script
script_of m = record {
  reads = record { made = m.reads; failing = m.failing_reads.items };
  writes = record { made = m.writes; failing = m.failing_writes.items };
  pieces = m.pieces.items;
}
