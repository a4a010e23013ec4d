-- Ears in memory that have given no connection.
use Rattle.std.specs.Prelude.{List, [], ◌∷◌, Bool, true, false, not, ◌&&◌, nat_eq, Option, Some, None}
use Rattle.kms_io.specs.Wire.{Wire}
use Rattle.kms_io.specs.Listening.{Listening}
use Rattle.kms_io.specs.MemoryEar.{listening_of}
use Rattle.kms_io.specs.declared.memory_ear.MemoryEar.{MemoryEar}

-- none was given back, where that is told
abbrev pub is_none_where_told : Option (List Wire) → Bool
is_none_where_told None = true
is_none_where_told (Some []) = true
is_none_where_told (Some (wire ∷ wires)) = false

-- no connection was given, and no fault was counted
abbrev pub is_new_listening : Listening → Bool
is_new_listening ear = nat_eq ear.faults 0 && not ear.is_out && is_none_where_told ear.given_back

-- each is as its `new` made it
abbrev pub are_new_ears : List MemoryEar → Bool
are_new_ears [] = true
are_new_ears (ear ∷ ears) = is_new_listening (listening_of ear) && are_new_ears ears
