-- What files in memory show and do.
use Rattle.std.specs.Prelude.{◌≡◌, ◌⊎◌, ℕ, List, None, Some, IsSome, true, false, map, string_bytes}
use Rattle.kms_io.specs.Calls.{Calls, is_failing}
use Rattle.kms_io.specs.Shelf.{Shelf}
use Rattle.kms_io.specs.FileList.{content_among}
use Rattle.kms_io.specs.declared.files.FileAnswer.{FileAnswer}
use Rattle.kms_io.specs.declared.files.FileAnswer.TheVariants.{Read, TooLong, Failed, NoMemory}
use Rattle.kms_io.specs.declared.memory_files.MemoryFiles.{MemoryFiles}

abbrev pub shelf_of : MemoryFiles → Shelf
shelf_of m = record {
  faults = m.faults;
  asked = Some (map string_bytes m.asked.items);
  content = content_among m.files.items;
}

-- its calls
abbrev pub calls_of : MemoryFiles → Calls
calls_of m = record { made = m.calls; failing = m.failing.items }

-- a call fails where its number says so or the name isn't there; at want of memory the names asked for are as they were
abbrev pub FailsAsTold : Calls → Shelf → List ℕ → FileAnswer → Shelf → Type 0
FailsAsTold calls old name Read new = (is_failing calls ≡ false) × IsSome (old.content name)
FailsAsTold calls old name TooLong new = (is_failing calls ≡ false) × IsSome (old.content name)
FailsAsTold calls old name Failed new = (is_failing calls ≡ true) ⊎ (old.content name ≡ None)
FailsAsTold calls old name NoMemory new = new.asked ≡ old.asked
