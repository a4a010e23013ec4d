-- What files show that tell nothing.
use Rattle.std.specs.Prelude.{None}
use Rattle.kms_io.specs.Shelf.{Shelf}
use Rattle.program_cases.specs.declared.long_files.LongFiles.{LongFiles}

-- no call failed, and neither names nor contents are told
abbrev pub untold : LongFiles → Shelf
untold files = record { faults = 0; asked = None; content = λ name. None }
