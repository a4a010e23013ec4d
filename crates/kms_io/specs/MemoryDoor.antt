-- What a door in memory shows and does.
use Rattle.std.specs.Prelude.{◌≡◌, ◌⊎◌, ◌<◌, ◌≤◌, ◌++◌, ℕ, List, length, take, drop, Some, map, true, false}
use Rattle.kms_io.specs.Calls.{Calls, is_failing}
use Rattle.kms_io.specs.Doorway.{Doorway}
use Rattle.kms_io.specs.MemoryEar.{listening_of}
use Rattle.kms_io.specs.Request.{asked_for}
use Rattle.kms_io.specs.declared.door.Opened.{Opened}
use Rattle.kms_io.specs.declared.door.Opened.TheVariants.{Open, Failed, NoMemory}
use Rattle.kms_io.specs.declared.memory_ear.MemoryEar.{MemoryEar}
use Rattle.kms_io.specs.declared.memory_door.MemoryDoor.{MemoryDoor}

abbrev pub doorway_of : MemoryDoor → Doorway
doorway_of m = record {
  faults = m.faults;
  asked = Some (map asked_for m.asked.items);
  is_open = Some m.is_open;
  given_back = Some (map listening_of m.back.items);
}

-- its openings
abbrev pub openings_of : MemoryDoor → Calls
openings_of m = record { made = m.calls; failing = m.failing.items }

-- the ears that it hasn't given yet, in order
abbrev pub waiting_at : MemoryDoor → List MemoryEar
waiting_at m = m.ears.items

-- of `old`, the ears that waited, the first n go to the end of a list; or an opening that is to fail, or too few that wait
abbrev pub GivesEars : Calls → List MemoryEar → ℕ → List MemoryEar → Opened → List MemoryEar → List MemoryEar → Type 0
GivesEars calls old n before Open new after = (is_failing calls ≡ false) × (n ≤ length old) × (after ≡ before ++ take n old) × (new ≡ drop n old)
GivesEars calls old n before Failed new after = ((is_failing calls ≡ true) ⊎ (length old < n)) × (new ≡ old)
GivesEars calls old n before NoMemory new after = new ≡ old
