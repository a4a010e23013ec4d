-- Texts cut into blocks. A string of bits of SP 800-38D is here a list of bytes, so a block, which
-- has 128 bits, has 16 bytes.
use Rattle.std.specs.Prelude.{ℕ, ◌-◌, ◌*◌, List, ◌++◌, length, take, drop, map, replicate}
use Rattle.std.specs.Int.{div_ceil}
use Rattle.std.specs.List.{range_with_len}

-- ⌈len(X) / 128⌉, the number of blocks of a text X (6.5, step 2)
abbrev pub block_count : List ℕ → ℕ
block_count text = div_ceil (length text) 16

-- block i of a text, counted from 0: 16 bytes, or those that are left for the last block
abbrev pub block_at : List ℕ → ℕ → List ℕ
block_at text i = take 16 (drop (16 * i) text)

-- X_1, X_2, .., X_n*, the blocks that joined are the text (6.4, step 1; 6.5, step 3)
unfoldable pub blocks_of : List ℕ → List (List ℕ)
blocks_of text = map (block_at text) (range_with_len 0 (block_count text))

-- X ‖ 0^v, the text with the fewest zeros after it that make its last block whole (7.1, steps 4 and 5)
unfoldable pub padded : List ℕ → List ℕ
padded text = text ++ replicate (16 * block_count text - length text) 0
