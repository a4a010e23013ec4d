-- A part of a list as replies show it (AWS KMS API Reference, ListKeys).
use Rattle.std.specs.Prelude.{ℕ, List, codes, decimal, Option, option_map, is_some}
use Rattle.serde_json.specs.Data.{Data, object, put, no_members, string, boolean}
use Rattle.kms_json.specs.Objects.{put_any}

-- a marker is a number in decimal
abbrev pub marker_data : ℕ → Data
marker_data n = string (decimal n)

-- the rows under their name; the marker behind which the next part begins, where more rows remain; and whether they do: in byte order of the members' names
abbrev pub part_data : List ℕ → Data → Option Data → Data
part_data name rows marker = object
    (put (codes "Truncated") (boolean (is_some marker))
    (put_any (codes "NextMarker") marker
    (put name rows no_members)))

-- the same of a list whose markers are numbers
abbrev pub page_data : List ℕ → Data → Option ℕ → Data
page_data name rows next = part_data name rows (option_map marker_data next)
