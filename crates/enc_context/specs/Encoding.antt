-- The bytes that stand for a context.
use Rattle.std.specs.Prelude.{ℕ, ◌≤◌, List, ◌++◌, length}
use Rattle.std.specs.List.{flat_map}
use Rattle.std.specs.Int.{w32, to_be_bytes}
use Rattle.enc_context.specs.declared.pairs.Pair.{Pair}
use Rattle.enc_context.specs.Pairs.{IsInOrder}

-- the length of a text in 4 bytes, high byte first, and the text
unfoldable pub text_encoding : List ℕ → List ℕ
text_encoding text = to_be_bytes w32 (length text) ++ text

-- the key and then the value
abbrev pub pair_encoding : Pair → List ℕ
pair_encoding pair = text_encoding pair.key ++ text_encoding pair.value

-- the pairs one after the other; of a context they are in order of the key's bytes
unfoldable pub encoding_of : List Pair → List ℕ
encoding_of pairs = flat_map pair_encoding pairs

-- pairs in order of the key's bytes, no key twice, of which the encoding has at most 8,192 bytes
pub record IsContext (pairs : List Pair) : Type 0 where
  pub in_order : IsInOrder pairs
  pub fits : length (encoding_of pairs) ≤ 8192
