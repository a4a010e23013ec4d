-- A list of files, each a name and its content.
use Rattle.std.specs.Prelude.{ℕ, List, Option, String, find, string_bytes, option_map}
use Rattle.std.specs.Str.{bytes_eq}
use Rattle.std.specs.Global.{Vec, Global}

-- the content of the first file of the name
abbrev pub content_among : List (String Global × Vec ℕ) → List ℕ → Option (List ℕ)
content_among files name = option_map (λ file. file.1.items) (find (λ file. bytes_eq (string_bytes file.0) name) files)
