-- The key expansion of FIPS 197 for a key of Nk = 8 words, section 5.2. A word is a list of 4 bytes.
use Rattle.std.specs.Prelude.{ℕ, zero, suc, ◌+◌, ◌-◌, ◌*◌, ◌/◌, ◌%◌, ◌==◌, List, [], ◌∷◌, ◌++◌, map, bit_xor, slice_index, if◌then◌else◌}
use Rattle.std.specs.List.{range_with_len}
use Rattle.aes_block.specs.Field.{product}
use Rattle.aes_block.specs.SBox.{sub_byte}
use Rattle.aes_block.specs.State.{word}

-- the word with the byte f r at place r
abbrev pub word_of : (ℕ → ℕ) → List ℕ
word_of f = f 0 ∷ f 1 ∷ f 2 ∷ f 3 ∷ []

-- the sum of two words
unfoldable pub xor_words : List ℕ → List ℕ → List ℕ
xor_words a b = word_of (λ r. bit_xor (slice_index a r) (slice_index b r))

-- RotWord: [a0, a1, a2, a3] becomes [a1, a2, a3, a0]
unfoldable pub rot_word : List ℕ → List ℕ
rot_word a = word_of (λ r. slice_index a ((r + 1) % 4))

-- SubWord: the substitution table at each byte
unfoldable pub sub_word : List ℕ → List ℕ
sub_word a = word_of (λ r. sub_byte (slice_index a r))

-- x^j in GF(2^8), where x is the byte 02
unfoldable pub power_of_x : ℕ → ℕ
power_of_x zero = 1
power_of_x (suc j) = product 0x02 (power_of_x j)

-- Rcon[j]: the byte x^(j - 1), and three zeros
unfoldable pub rcon : ℕ → List ℕ
rcon j = power_of_x (j - 1) ∷ 0 ∷ 0 ∷ 0 ∷ []

-- what is added to word i - 8 to make word i, from `previous`, which is word i - 1 (the standard's
-- `temp`)
unfoldable pub key_term : List ℕ → ℕ → List ℕ
key_term previous i =
    if i % 8 == 0 then xor_words (sub_word (rot_word previous)) (rcon (i / 8))
    else (if i % 8 == 4 then sub_word previous else previous)

-- word i of the schedule, from the words w before it
unfoldable pub next_word : List (List ℕ) → ℕ → List ℕ
next_word w i = xor_words (word w (i - 8)) (key_term (word w (i - 1)) i)

-- the words w and the one after them, which is word i
unfoldable pub with_next : List (List ℕ) → ℕ → List (List ℕ)
with_next w i = w ++ next_word w i ∷ []

-- word i of the key
unfoldable pub key_word : List ℕ → ℕ → List ℕ
key_word key i = word_of (λ r. slice_index key (4 * i + r))

-- the first 8 + n words of the schedule of a key
unfoldable pub first_words : List ℕ → ℕ → List (List ℕ)
first_words key zero = map (key_word key) (range_with_len 0 8)
first_words key (suc n) = with_next (first_words key n) (8 + n)

-- KeyExpansion: the 60 words of the schedule of a key of 32 bytes
unfoldable pub key_expansion : List ℕ → List (List ℕ)
key_expansion key = first_words key 52
