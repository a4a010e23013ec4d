-- What the generator writes is a draw, and a draw keeps to its words.
use Rattle.std.proofs.Common.{◌≡◌, ℕ, zero, suc, ◌+◌, ◌-◌, ◌*◌, ◌/◌, ◌%◌, ◌<◌, ◌≤◌, ◌^◌, inl, inr, List, [], ◌++◌, length, take, get_or, refl, ap, ◌∙◌, arith, length-append}
use Rattle.std.proofs.lemmas.Bool.{cases_lt}
use Rattle.std.proofs.lemmas.List.{get_or_append_left, get_or-append_right, get_or-take, length-take-le}
use Rattle.std.specs.Int.{w32, byte_at, to_le_bytes}
use Rattle.rand_core.specs.Steps.{fill_via_u32, word_bytes}
use Rattle.rand_chacha.specs.ChaCha.{ChaCha, next_word, of_seed}
use Rattle.draw_lines.specs.Draw.{bytes_of_words, draw_at, key_stream_word, words_for}

-- the generator of a seed, at a place
abbrev at : List ℕ → ℕ → ChaCha
at seed place = record (of_seed seed) { word_pos = place }

-- the next words of the generator, and the generator after them
words_written : (seed : List ℕ) (place n : ℕ) → place + n < 2 ^ 68
    → word_bytes (to_le_bytes w32) (next_word 10) n (at seed place) ≡ (bytes_of_words seed place n, at seed (place + n))
unfolding bytes_of_words word_bytes
words_written seed place zero fits = ap (λ (p : ℕ). ([], at seed p)) (omega arith)
words_written seed place (suc n) fits =
    let before = words_written seed place n (omega arith) in
    let after : (place + n + 1) % 2 ^ 68 ≡ place + suc n = omega arith in
    ap (λ (p : List ℕ × ChaCha). (p.0 ++ to_le_bytes w32 (next_word 10 p.1).0, (next_word 10 p.1).1)) before
    ∙ ap (λ (p : ℕ). (bytes_of_words seed place n ++ to_le_bytes w32 (key_stream_word seed (place + n)), at seed p)) after

-- what the generator writes into a room of this size
pub fill_draws : (seed : List ℕ) (place size : ℕ) → place + words_for size < 2 ^ 68
    → (fill_via_u32 (next_word 10) size (at seed place)).0 ≡ draw_at seed place size
unfolding draw_at
fill_draws seed place size fits =
    ap (λ (p : List ℕ × ChaCha). take size p.0) (words_written seed place (words_for size) fits)

-- so many words have 4 bytes each
words_length : (seed : List ℕ) (place n : ℕ) → length (bytes_of_words seed place n) ≡ 4 * n
unfolding bytes_of_words
words_length seed place zero = refl
words_length seed place (suc n) =
    let before = words_length seed place n in simp length-append (omega (arith, before))

-- byte r of a word, where byte 0 is the lowest
byte_of_word : (r word : ℕ) → r < 4 → get_or (to_le_bytes w32 word) r 0 ≡ byte_at r word
byte_of_word zero word below = refl
byte_of_word (suc zero) word below = refl
byte_of_word (suc (suc zero)) word below = refl
byte_of_word (suc (suc (suc zero))) word below = refl
byte_of_word (suc (suc (suc (suc r)))) word below = absurd (omega arith)

-- an element before the last word, or in it
in_front_or_last : (xs ys : List ℕ) (n i value : ℕ) → length xs ≡ 4 * n
    → (i < 4 * n → get_or xs i 0 ≡ value) → (4 * n ≤ i → get_or ys (i - 4 * n) 0 ≡ value)
    → get_or (xs ++ ys) i 0 ≡ value
in_front_or_last xs ys n i value size front last = elim (cases_lt i (4 * n)) [
  | inl below ↦ get_or_append_left xs ys 0 i (rw size below) ∙ front below
  | inr above ↦ get_or-append_right xs ys (4 * n) i 0 size above ∙ last above
]

byte_in_words : (seed : List ℕ) (place n i : ℕ) → i < 4 * n
    → get_or (bytes_of_words seed place n) i 0 ≡ byte_at (i % 4) (key_stream_word seed (place + i / 4))
unfolding bytes_of_words
byte_in_words seed place zero i below = absurd (omega arith)
byte_in_words seed place (suc n) i below =
    in_front_or_last (bytes_of_words seed place n) _ n i _ (words_length seed place n)
    (λ in_front. byte_in_words seed place n i in_front)
    (λ in_last.
    let r : i - 4 * n ≡ i % 4 = omega arith in
    let word : n ≡ i / 4 = omega arith in
    rw (r, word) (byte_of_word (i % 4) _ (omega arith)))

-- a draw has its size
pub draw_length : (seed : List ℕ) (place size : ℕ) → length (draw_at seed place size) ≡ size
unfolding draw_at
draw_length seed place size =
    length-take-le size _ (rw words_length (omega arith))

-- each byte of a draw is a byte of its word
pub draw_byte : (seed : List ℕ) (place size i : ℕ) → i < size
    → get_or (draw_at seed place size) i 0 ≡ byte_at (i % 4) (key_stream_word seed (place + i / 4))
unfolding draw_at
draw_byte seed place size i below =
    get_or-take size _ i 0 below ∙ byte_in_words seed place (words_for size) i (omega arith)
