-- Connections in memory of which nothing was taken or written.
use Rattle.std.specs.Prelude.{List, [], ◌∷◌, Bool, true, false, ◌&&◌, nat_eq, Option, Some, None}
use Rattle.kms_io.specs.Wire.{Wire}
use Rattle.kms_io.specs.MemoryLink.{wire_of}
use Rattle.kms_io.specs.declared.memory_link.MemoryLink.{MemoryLink}

-- the list is empty, where it is told
abbrev pub is_empty_where_told : {X : Type 0} → Option (List X) → Bool
is_empty_where_told None = true
is_empty_where_told (Some []) = true
is_empty_where_told (Some (x ∷ xs)) = false

-- nothing was taken or written, and no fault was counted
abbrev pub is_new_wire : Wire → Bool
is_new_wire wire = is_empty_where_told wire.taken && is_empty_where_told wire.written && is_empty_where_told wire.moves && nat_eq wire.read_faults 0 && nat_eq wire.write_faults 0

-- each is as its `new` made it
abbrev pub are_new_links : List MemoryLink → Bool
are_new_links [] = true
are_new_links (link ∷ links) = is_new_wire (wire_of link) && are_new_links links
