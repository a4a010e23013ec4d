-- The four tables of the rounds, entry by entry, and what the rounds look up in them.
use Rattle.std.proofs.Common.{◌≡◌, ℕ, ◌<◌, List, [], ◌∷◌, length, slice_index, map, bit_xor, refl, sym, ap, subst, ◌∙◌}
use Rattle.std.specs.Int.{w32, to_be_bytes}
use Rattle.std.specs.Int.Bits.{xor_assoc}
use Rattle.std.specs.Prelude.{slice_index_or}
use Rattle.std.proofs.lemmas.Nat.{xor_comm}
use Rattle.std.proofs.lemmas.List.{get_or-map}
use Rattle.aes_block.specs.Field.{product}
use Rattle.aes_block.specs.SBox.{sub_byte}
use Rattle.aes_block.specs.State.{mixed_byte}
use Rattle.aes_block.specs.Schedule.{word_of, xor_words, sub_word}
use Rattle.aes_block.specs.declared.sbox.TheConstants.{SBOX}
use Rattle.aes_block.specs.declared.rounds.TheConstants.{MIXED_ROW_0, MIXED_ROW_1, MIXED_ROW_2, MIXED_ROW_3}
use Rattle.aes_block.proofs.Bytes.{doubled, tripled, product-two, product-three, SBOX-sub_byte}
use Rattle.aes_block.proofs.WordFacts.{bytes-xor, sub_byte-byte}

-- ---- the entries

-- the columns of a byte in each row, from its products with 02 and 03 and the byte
abbrev row_0 : ℕ → ℕ → ℕ → List ℕ
row_0 two three one = two ∷ one ∷ one ∷ three ∷ []

abbrev row_1 : ℕ → ℕ → ℕ → List ℕ
row_1 two three one = three ∷ two ∷ one ∷ one ∷ []

abbrev row_2 : ℕ → ℕ → ℕ → List ℕ
row_2 two three one = one ∷ three ∷ two ∷ one ∷ []

abbrev row_3 : ℕ → ℕ → ℕ → List ℕ
row_3 two three one = one ∷ one ∷ three ∷ two ∷ []

-- a table has the column of the substitution of each byte
abbrev IsTable : List ℕ → (ℕ → ℕ → ℕ → List ℕ) → Type 0
IsTable table row = map (to_be_bytes w32) table ≡ map (λ s. row (doubled s) (tripled s) s) SBOX

table_0 : IsTable MIXED_ROW_0 row_0
table_0 = refl

table_1 : IsTable MIXED_ROW_1 row_1
table_1 = refl

table_2 : IsTable MIXED_ROW_2 row_2
table_2 = refl

table_3 : IsTable MIXED_ROW_3 row_3
table_3 = refl

abbrev entry : (ℕ → ℕ → ℕ → List ℕ) → ℕ → List ℕ
entry row x = row (product 2 (sub_byte x)) (product 3 (sub_byte x)) (sub_byte x)

entry_is : (table : List ℕ) (row : ℕ → ℕ → ℕ → List ℕ) (x : ℕ) → IsTable table row → length table ≡ 256 → x < 256
    → to_be_bytes w32 (slice_index table x) ≡ entry row x
entry_is table row x e len lt =
    let s : ℕ = sub_byte x in
    let within : x < length table = subst (λ (n : ℕ). x < n) (sym len) lt in
    sym (get_or-map (to_be_bytes w32) table x 0 [] within)
    ∙ ap (λ (t : List (List ℕ)). slice_index_or t x []) e
    ∙ get_or-map (λ s. row (doubled s) (tripled s) s) SBOX x 0 [] lt
    ∙ ap (λ s. row (doubled s) (tripled s) s) (SBOX-sub_byte x lt)
    ∙ ap (λ two. row two (tripled s) s) (sym (product-two s (sub_byte-byte x)))
    ∙ ap (λ three. row (product 2 s) three s) (sym (product-three s (sub_byte-byte x)))

-- ---- four entries added

turned : (a b c d : ℕ) → bit_xor (bit_xor (bit_xor a b) c) d ≡ bit_xor (bit_xor (bit_xor b c) d) a
turned a b c d =
    ap (λ (n : ℕ). bit_xor n d) (xor_assoc a b c) ∙ xor_assoc a (bit_xor b c) d ∙ xor_comm a (bit_xor (bit_xor b c) d)

-- by rows, in the order of the standard's matrix
sum_of_rows : (a b c d two_a two_b two_c two_d three_a three_b three_c three_d : ℕ)
    → xor_words (xor_words (xor_words (row_0 two_a three_a a) (row_1 two_b three_b b)) (row_2 two_c three_c c)) (row_3 two_d three_d d)
    ≡ bit_xor (bit_xor (bit_xor two_a three_b) c) d ∷ bit_xor (bit_xor (bit_xor two_b three_c) d) a
    ∷ bit_xor (bit_xor (bit_xor two_c three_d) a) b ∷ bit_xor (bit_xor (bit_xor two_d three_a) b) c ∷ []
unfolding xor_words
sum_of_rows a b c d two_a two_b two_c two_d three_a three_b three_c three_d =
    let second = turned a two_b three_c d in
    let third = turned a b two_c three_d ∙ turned b two_c three_d a in
    let fourth = turned three_a b c two_d ∙ turned b c two_d three_a ∙ turned c two_d three_a b in
    rw (second, third, fourth) refl

pub mixed_column_is : (x0 x1 x2 x3 : ℕ) → x0 < 256 → x1 < 256 → x2 < 256 → x3 < 256
    → to_be_bytes w32 (bit_xor (bit_xor (bit_xor (slice_index MIXED_ROW_0 x0) (slice_index MIXED_ROW_1 x1)) (slice_index MIXED_ROW_2 x2)) (slice_index MIXED_ROW_3 x3))
    ≡ word_of (λ r. mixed_byte (sub_word (x0 ∷ x1 ∷ x2 ∷ x3 ∷ [])) r 0)
unfolding mixed_byte sub_word
mixed_column_is x0 x1 x2 x3 l0 l1 l2 l3 =
    let m0 : ℕ = slice_index MIXED_ROW_0 x0 in
    let m1 : ℕ = slice_index MIXED_ROW_1 x1 in
    let m2 : ℕ = slice_index MIXED_ROW_2 x2 in
    let m3 : ℕ = slice_index MIXED_ROW_3 x3 in
    bytes-xor (bit_xor (bit_xor m0 m1) m2) m3
    ∙ ap (λ w. xor_words w (to_be_bytes w32 m3)) (bytes-xor (bit_xor m0 m1) m2 ∙ ap (λ w. xor_words w (to_be_bytes w32 m2)) (bytes-xor m0 m1))
    ∙ rw (
      entry_is MIXED_ROW_0 row_0 x0 table_0 refl l0,
      entry_is MIXED_ROW_1 row_1 x1 table_1 refl l1,
      entry_is MIXED_ROW_2 row_2 x2 table_2 refl l2,
      entry_is MIXED_ROW_3 row_3 x3 table_3 refl l3,
    ) (sum_of_rows (sub_byte x0) (sub_byte x1) (sub_byte x2) (sub_byte x3) (product 2 (sub_byte x0)) (product 2 (sub_byte x1)) (product 2 (sub_byte x2)) (product 2 (sub_byte x3)) (product 3 (sub_byte x0)) (product 3 (sub_byte x1)) (product 3 (sub_byte x2)) (product 3 (sub_byte x3)))
