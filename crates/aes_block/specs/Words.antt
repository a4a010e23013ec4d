-- Words as the code keeps them: numbers of 32 bits, the first of the 4 bytes highest.
use Rattle.std.specs.Prelude.{ℕ, List, map}
use Rattle.std.specs.Int.{w32, to_be_bytes}
use Rattle.std.specs.List.{flat_map}

-- the words, each as its 4 bytes
unfoldable pub words_of : List ℕ → List (List ℕ)
words_of numbers = map (to_be_bytes w32) numbers

-- their bytes, one word after another: a state, where the words are its columns
unfoldable pub bytes_of : List ℕ → List ℕ
bytes_of numbers = flat_map (to_be_bytes w32) numbers
