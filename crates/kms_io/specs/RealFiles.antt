-- What the machine's files show.
use Rattle.std.specs.Prelude.{None}
use Rattle.kms_io.specs.Shelf.{Shelf}
use Rattle.kms_io.specs.declared.real_files.RealFiles.{RealFiles}

-- their count of faults, and nothing of names and content
abbrev pub counts_of : {R : Type 0} → RealFiles R → Shelf
counts_of files = record {
  faults = files.faults;
  asked = None;
  content = λ _. None;
}
