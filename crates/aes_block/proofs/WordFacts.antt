-- Words as numbers and as their bytes, and the columns of a state.
use Rattle.std.proofs.Common.{◌≡◌, ℕ, zero, suc, ◌+◌, ◌*◌, ◌/◌, ◌%◌, ◌^◌, ◌<◌, List, [], ◌∷◌, ◌++◌, length, slice_index, replicate, bit_xor, refl, sym, ap, ◌∙◌, subst, arith}
use borrow.Rule.Slice.PartMut.{put_mid}
use Rattle.std.specs.Int.{w32, to_be_bytes}
use Rattle.std.proofs.lemmas.Nat.{xor_shr, xor_mod}
use Rattle.std.proofs.lemmas.List.{get_or-map}
use Rattle.std.proofs.lemmas.List.FromFn.{fill_by_all}
use Rattle.aes_block.specs.SBox.{affine, sub_byte}
use Rattle.aes_block.specs.State.{byte_at, word, state_of, sub_bytes, shift_rows, mixed_byte, mix_columns, add_round_key}
use Rattle.aes_block.specs.Schedule.{word_of, xor_words, sub_word}
use Rattle.aes_block.specs.Cipher.{round}
use Rattle.aes_block.specs.Words.{words_of, bytes_of}

-- ---- one word

xor_at : (k a b : ℕ) → bit_xor a b / 2 ^ k % 2 ^ 8 ≡ bit_xor (a / 2 ^ k % 2 ^ 8) (b / 2 ^ k % 2 ^ 8)
xor_at k a b = ap (λ (n : ℕ). n % 2 ^ 8) (xor_shr a b k) ∙ xor_mod (a / 2 ^ k) (b / 2 ^ k) 8

same_four : (a b c d a' b' c' d' : ℕ) → a ≡ a' → b ≡ b' → c ≡ c' → d ≡ d' → a ∷ b ∷ c ∷ d ∷ [] ≡ a' ∷ b' ∷ c' ∷ d' ∷ []
same_four a b c d a' b' c' d' p q r s = cc

-- the bytes of a sum are the sums of the bytes
pub bytes-xor : (a b : ℕ) → to_be_bytes w32 (bit_xor a b) ≡ xor_words (to_be_bytes w32 a) (to_be_bytes w32 b)
unfolding xor_words
bytes-xor a b =
    same_four _ _ _ _ _ _ _ _ (xor_at 24 a b) (xor_at 16 a b) (xor_at 8 a b) (xor_mod a b 8)

pub sub_byte-byte : (x : ℕ) → sub_byte x < 256
unfolding sub_byte affine
sub_byte-byte x = omega arith

-- ---- words of a schedule

pub word-words_of : (numbers : List ℕ) (i : ℕ) → i < length numbers → word (words_of numbers) i ≡ to_be_bytes w32 (slice_index numbers i)
unfolding words_of
word-words_of numbers i lt = get_or-map (to_be_bytes w32) numbers i 0 [] lt

-- ---- the columns of a state

four_items : (xs : List ℕ) → length xs ≡ 4
    → xs ≡ slice_index xs 0 ∷ slice_index xs 1 ∷ slice_index xs 2 ∷ slice_index xs 3 ∷ []
four_items xs len = fill_by_all (slice_index xs) xs 4 0 len (λ k lt. refl)

pub bytes_of-four : (a b c d : ℕ) → bytes_of (a ∷ b ∷ c ∷ d ∷ []) ≡ to_be_bytes w32 a ++ to_be_bytes w32 b ++ to_be_bytes w32 c ++ to_be_bytes w32 d
unfolding bytes_of
bytes_of-four a b c d = refl

-- column c after ShiftRows
abbrev pub shifted : List ℕ → ℕ → List ℕ
shifted s c =
    slice_index (to_be_bytes w32 (slice_index s c)) 0 ∷ slice_index (to_be_bytes w32 (slice_index s ((c + 1) % 4))) 1
    ∷ slice_index (to_be_bytes w32 (slice_index s ((c + 2) % 4))) 2 ∷ slice_index (to_be_bytes w32 (slice_index s ((c + 3) % 4))) 3 ∷ []

shifted_four : (w0 w1 w2 w3 c : ℕ) → c < 4
    → shifted (w0 ∷ w1 ∷ w2 ∷ w3 ∷ []) c ≡ word_of (λ r. byte_at (shift_rows (bytes_of (w0 ∷ w1 ∷ w2 ∷ w3 ∷ []))) r c)
unfolding shift_rows state_of bytes_of
shifted_four w0 w1 w2 w3 zero lt = refl
shifted_four w0 w1 w2 w3 (suc zero) lt = refl
shifted_four w0 w1 w2 w3 (suc (suc zero)) lt = refl
shifted_four w0 w1 w2 w3 (suc (suc (suc zero))) lt = refl
shifted_four w0 w1 w2 w3 (suc (suc (suc (suc c)))) lt = absurd (omega arith)

pub shifted_column_is : (s : List ℕ) (c : ℕ) → length s ≡ 4 → c < 4 → shifted s c ≡ word_of (λ r. byte_at (shift_rows (bytes_of s)) r c)
shifted_column_is s c len lt =
    let P : List ℕ → Type 0 = λ t. shifted t c ≡ word_of (λ r. byte_at (shift_rows (bytes_of t)) r c) in
    subst P (sym (four_items s len)) (shifted_four (slice_index s 0) (slice_index s 1) (slice_index s 2) (slice_index s 3) c lt)

-- column c after a round
pub round_column_is : (w : List (List ℕ)) (s : List ℕ) (n c : ℕ) → c < 4
    → xor_words (word_of (λ r. mixed_byte (sub_word (word_of (λ r. byte_at (shift_rows s) r c))) r 0)) (word w (4 * n + c))
    ≡ word_of (λ r. byte_at (round w s n) r c)
unfolding round add_round_key mix_columns mixed_byte shift_rows sub_bytes state_of sub_word xor_words
round_column_is w s n zero lt = refl
round_column_is w s n (suc zero) lt = refl
round_column_is w s n (suc (suc zero)) lt = refl
round_column_is w s n (suc (suc (suc zero))) lt = refl
round_column_is w s n (suc (suc (suc (suc c)))) lt = absurd (omega arith)

pub round_column_added : (words s : List ℕ) (n c : ℕ) (column : List ℕ) (mixed : ℕ) → length words ≡ 60 → n < 14 → c < 4
    → column ≡ word_of (λ r. byte_at (shift_rows (bytes_of s)) r c)
    → to_be_bytes w32 mixed ≡ word_of (λ r. mixed_byte (sub_word column) r 0)
    → to_be_bytes w32 (bit_xor mixed (slice_index words (4 * n + c))) ≡ word_of (λ r. byte_at (round (words_of words) (bytes_of s) n) r c)
round_column_added words s n c column mixed len ln lc ec em =
    let key : ℕ = slice_index words (4 * n + c) in
    bytes-xor mixed key
    ∙ ap (λ w. xor_words w (to_be_bytes w32 key)) (em ∙ ap (λ (t : List ℕ). word_of (λ r. mixed_byte (sub_word t) r 0)) ec)
    ∙ ap (xor_words (word_of (λ r. mixed_byte (sub_word (word_of (λ r. byte_at (shift_rows (bytes_of s)) r c))) r 0))) (sym (word-words_of words (4 * n + c) (omega arith)))
    ∙ round_column_is (words_of words) (bytes_of s) n c lc

-- a state is its four columns
joined : (a b c d a' b' c' d' : List ℕ) → a ≡ a' → b ≡ b' → c ≡ c' → d ≡ d' → a ++ b ++ c ++ d ≡ a' ++ b' ++ c' ++ d'
joined a b c d a' b' c' d' p q r s = cc

pub columns_joined : (s : List ℕ) (w : List (List ℕ)) (n : ℕ) (c0 c1 c2 c3 : List ℕ)
    → c0 ≡ word_of (λ r. byte_at (add_round_key s w n) r 0) → c1 ≡ word_of (λ r. byte_at (add_round_key s w n) r 1)
    → c2 ≡ word_of (λ r. byte_at (add_round_key s w n) r 2) → c3 ≡ word_of (λ r. byte_at (add_round_key s w n) r 3)
    → c0 ++ c1 ++ c2 ++ c3 ≡ add_round_key s w n
unfolding add_round_key state_of
columns_joined s w n c0 c1 c2 c3 e0 e1 e2 e3 = joined _ _ _ _ _ _ _ _ e0 e1 e2 e3

-- column c of a block after the first round key is added
pub first_column_is : (w : List (List ℕ)) (block : List ℕ) (c : ℕ) → c < 4
    → xor_words (word_of (λ r. slice_index block (4 * c + r))) (word w c) ≡ word_of (λ r. byte_at (add_round_key block w 0) r c)
unfolding add_round_key state_of xor_words
first_column_is w block zero lt = refl
first_column_is w block (suc zero) lt = refl
first_column_is w block (suc (suc zero)) lt = refl
first_column_is w block (suc (suc (suc zero))) lt = refl
first_column_is w block (suc (suc (suc (suc c)))) lt = absurd (omega arith)

pub first_column_added : (words block : List ℕ) (c n : ℕ) → length words ≡ 60 → c < 4
    → to_be_bytes w32 n ≡ slice_index block (4 * c) ∷ slice_index block (4 * c + 1) ∷ slice_index block (4 * c + 2) ∷ slice_index block (4 * c + 3) ∷ []
    → to_be_bytes w32 (bit_xor n (slice_index words c)) ≡ word_of (λ r. byte_at (add_round_key block (words_of words) 0) r c)
first_column_added words block c n len lc e =
    let first : ℕ → List ℕ = λ k. slice_index block k ∷ slice_index block (4 * c + 1) ∷ slice_index block (4 * c + 2) ∷ slice_index block (4 * c + 3) ∷ [] in
    let place : 4 * c ≡ 4 * c + 0 = omega arith in
    bytes-xor n (slice_index words c)
    ∙ ap (λ w. xor_words w (to_be_bytes w32 (slice_index words c))) (e ∙ ap first place)
    ∙ ap (xor_words (first (4 * c + 0))) (sym (word-words_of words c (omega arith)))
    ∙ first_column_is (words_of words) block c lc

-- column c after the last round
pub last_column_is : (w : List (List ℕ)) (s : List ℕ) (c : ℕ) → c < 4
    → xor_words (sub_word (word_of (λ r. byte_at (shift_rows s) r c))) (word w (56 + c))
    ≡ word_of (λ r. byte_at (add_round_key (shift_rows (sub_bytes s)) w 14) r c)
unfolding add_round_key shift_rows sub_bytes state_of sub_word xor_words
last_column_is w s zero lt = refl
last_column_is w s (suc zero) lt = refl
last_column_is w s (suc (suc zero)) lt = refl
last_column_is w s (suc (suc (suc zero))) lt = refl
last_column_is w s (suc (suc (suc (suc c)))) lt = absurd (omega arith)

pub last_column_added : (words s : List ℕ) (c : ℕ) (column substituted : List ℕ) (n : ℕ) → length words ≡ 60 → c < 4
    → column ≡ word_of (λ r. byte_at (shift_rows (bytes_of s)) r c) → substituted ≡ sub_word column → to_be_bytes w32 n ≡ substituted
    → to_be_bytes w32 (bit_xor n (slice_index words (56 + c)))
    ≡ word_of (λ r. byte_at (add_round_key (shift_rows (sub_bytes (bytes_of s))) (words_of words) 14) r c)
last_column_added words s c column substituted n len lc ec es e =
    let key : ℕ = slice_index words (56 + c) in
    bytes-xor n key
    ∙ ap (λ w. xor_words w (to_be_bytes w32 key)) (e ∙ es ∙ ap sub_word ec)
    ∙ ap (xor_words (sub_word (word_of (λ r. byte_at (shift_rows (bytes_of s)) r c)))) (sym (word-words_of words (56 + c) (omega arith)))
    ∙ last_column_is (words_of words) (bytes_of s) c lc

-- four columns written one after another
pub block_written : (c0 c1 c2 c3 : List ℕ) → length c0 ≡ 4 → length c1 ≡ 4 → length c2 ≡ 4 → length c3 ≡ 4
    → put_mid 12 4 (put_mid 8 4 (put_mid 4 4 (c0 ++ replicate 12 0) c1) c2) c3 ≡ c0 ++ c1 ++ c2 ++ c3
block_written c0 c1 c2 c3 l0 l1 l2 l3 = rw (four_items c0 l0, four_items c1 l1, four_items c2 l2, four_items c3 l3) refl
