-- The bytes of a draw: ChaCha20's key stream (RFC 8439, section 2), by words. The seed is the key. The
-- block counter has 64 bits and the nonce, the number of the stream, is 0.
use Rattle.std.specs.Prelude.{ℕ, zero, suc, ◌+◌, ◌/◌, List, [], ◌++◌, take}
use Rattle.std.specs.Int.{w32, to_le_bytes}
use Rattle.rand_chacha.specs.ChaCha.{word_at, key_of}

-- the word at a place of the key stream, after the 10 double rounds of 2.3
abbrev pub key_stream_word : List ℕ → ℕ → ℕ
key_stream_word seed place = word_at 10 (key_of seed) 0 place

-- how many words of 4 bytes hold so many bytes
abbrev pub words_for : ℕ → ℕ
words_for size = (size + 3) / 4

-- the bytes of so many words from a place on, each word low byte first (2.3)
unfoldable pub bytes_of_words : List ℕ → ℕ → ℕ → List ℕ
bytes_of_words seed place zero = []
bytes_of_words seed place (suc n) =
    bytes_of_words seed place n ++ to_le_bytes w32 (key_stream_word seed (place + n))

-- a draw of so many bytes at a place: what is left of the last word is dropped
unfoldable pub draw_at : List ℕ → ℕ → ℕ → List ℕ
draw_at seed place size = take size (bytes_of_words seed place (words_for size))
