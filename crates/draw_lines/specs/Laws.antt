-- Laws of lines of draws.
use Rattle.std.specs.Prelude.{◌≡◌, ℕ, ◌+◌, ◌/◌, ◌%◌, ◌^◌, ◌<◌, List, length, slice_index}
use Rattle.std.specs.Int.{byte_at}
use Rattle.draw_lines.specs.Draw.{draw_at, key_stream_word, words_for}
use Rattle.draw_lines.specs.Iv.{iv_at}
use Rattle.draw_lines.specs.Line.{Line}

-- the vectors of one line at two counts below 2^48 are equal only where the counts are
abbrev pub OneLineRepeatsNoIv : Type 0
OneLineRepeatsNoIv =
    (line : Line) (i j : ℕ) → i < 2 ^ 48 → j < 2 ^ 48
    → iv_at line.boot line.pass_number i ≡ iv_at line.boot line.pass_number j → i ≡ j

-- a vector of a count below 2^48 tells its boot, its pass number and its count
abbrev pub LinesShareNoIv : Type 0
LinesShareNoIv =
    (a b : Line) (i j : ℕ) → a.boot < 2 ^ 32 → b.boot < 2 ^ 32 → a.pass_number < 2 ^ 16 → b.pass_number < 2 ^ 16
    → i < 2 ^ 48 → j < 2 ^ 48 → iv_at a.boot a.pass_number i ≡ iv_at b.boot b.pass_number j
    → (a.boot ≡ b.boot) × (a.pass_number ≡ b.pass_number) × (i ≡ j)

-- a draw has its size, and byte i of it is a byte of the word i / 4 of those that it counts
abbrev pub DrawsKeepToTheirWords : Type 0
DrawsKeepToTheirWords =
    (seed : List ℕ) (place size : ℕ)
    → (length (draw_at seed place size) ≡ size)
    × ((i : ℕ) → i < size
    → (i / 4 < words_for size)
    × (slice_index (draw_at seed place size) i ≡ byte_at (i % 4) (key_stream_word seed (place + i / 4))))
