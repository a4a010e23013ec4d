-- The words of a schedule, one after another.
use Rattle.std.proofs.Common.{◌≡◌, ◌≢◌, ℕ, zero, suc, ◌+◌, ◌-◌, ◌*◌, ◌/◌, ◌^◌, ◌%◌, ◌<◌, ◌≤◌, ◌==◌, List, [], ◌∷◌, ◌++◌, length, slice_index, slice_set, take, map, refl, sym, ap, ◌∙◌, arith}
use Rattle.std.specs.Int.{w32, to_be_bytes}
use Rattle.std.specs.List.{range_with_len, flat_map}
use Rattle.std.proofs.lemmas.Bool.{cond-true, cond-false, eq-eqb, ne_eqb}
use Rattle.std.proofs.lemmas.List.{get_or-take, take_more, take_more_set, take_all, take-append-le, length_push, map_push}
use Rattle.std.proofs.lemmas.List.FromFn.{fill_by_all, map-range_with_len_more}
use Rattle.aes_block.specs.State.{word}
use Rattle.aes_block.specs.Words.{words_of}
use Rattle.aes_block.specs.Schedule.{xor_words, rot_word, sub_word, rcon, key_term, next_word, with_next, key_word, first_words, key_expansion}
use Rattle.aes_block.proofs.Bytes.{power_of_x-small}

pub rcon-shifted : (j : ℕ) → 1 ≤ j → j ≤ 8 → 1 * 2 ^ (j - 1) % 256 ∷ 0 ∷ 0 ∷ 0 ∷ [] ≡ rcon j
unfolding rcon
rcon-shifted j low high = ap (λ (b : ℕ). b ∷ 0 ∷ 0 ∷ 0 ∷ []) (power_of_x-small (j - 1) (omega arith))

-- ---- what is added for each word

pub key_term-first : (p : List ℕ) (i : ℕ) → i % 8 ≡ 0 → key_term p i ≡ xor_words (sub_word (rot_word p)) (rcon (i / 8))
unfolding key_term
key_term-first p i e = cond-true (i % 8 == 0) _ _ (eq-eqb (i % 8) 0 e)

pub key_term-middle : (p : List ℕ) (i : ℕ) → i % 8 ≡ 4 → key_term p i ≡ sub_word p
unfolding key_term
key_term-middle p i e =
    cond-false (i % 8 == 0) _ _ (ne_eqb (i % 8) 0 (λ z. omega arith)) ∙ cond-true (i % 8 == 4) _ _ (eq-eqb (i % 8) 4 e)

pub key_term-other : (p : List ℕ) (i : ℕ) → i % 8 ≢ 0 → i % 8 ≢ 4 → key_term p i ≡ p
unfolding key_term
key_term-other p i n0 n4 =
    cond-false (i % 8 == 0) _ _ (ne_eqb (i % 8) 0 n0) ∙ cond-false (i % 8 == 4) _ _ (ne_eqb (i % 8) 4 n4)

-- ---- one word more

-- of the key
pub key_words_more : (key : List ℕ) (words : List (List ℕ)) (i : ℕ) (next : List ℕ) → i < length words
    → take i words ≡ map (key_word key) (range_with_len 0 i) → next ≡ key_word key i
    → take (i + 1) (slice_set words i next) ≡ map (key_word key) (range_with_len 0 (i + 1))
key_words_more key words i next lt so_far e =
    take_more_set words i next lt
    ∙ rw (so_far, e) (sym (map-range_with_len_more (key_word key) 0 i i (omega arith)))

-- of the schedule
pub first_words-suc : (key : List ℕ) (n : ℕ) → first_words key (suc n) ≡ first_words key n ++ next_word (first_words key n) (8 + n) ∷ []
unfolding first_words with_next
first_words-suc key n = refl

next_word-taken : (words : List (List ℕ)) (i : ℕ) → 8 ≤ i → next_word (take i words) i ≡ xor_words (word words (i - 8)) (key_term (word words (i - 1)) i)
unfolding next_word
next_word-taken words i low =
    rw (get_or-take i words (i - 8) [] (omega arith), get_or-take i words (i - 1) [] (omega arith)) refl

pub first_words_more : (key : List ℕ) (words : List (List ℕ)) (i : ℕ) (next : List ℕ) → 8 ≤ i → i < length words
    → take i words ≡ first_words key (i - 8) → next ≡ xor_words (word words (i - 8)) (key_term (word words (i - 1)) i)
    → take (i + 1) (slice_set words i next) ≡ first_words key (i + 1 - 8)
first_words_more key words i next low lt so_far e =
    let count : i + 1 - 8 ≡ suc (i - 8) = omega arith in
    let place : 8 + (i - 8) ≡ i = omega arith in
    let made : next ≡ next_word (first_words key (i - 8)) i = e ∙ sym (next_word-taken words i low) ∙ ap (λ (w : List (List ℕ)). next_word w i) so_far in
    take_more_set words i next lt
    ∙ rw (so_far, made, count, first_words-suc key (i - 8), place) refl

-- ---- the whole schedule

pub key_expansion-filled : (key : List ℕ) (words : List (List ℕ)) (i : ℕ) → i ≡ 60 → length words ≡ 60
    → take i words ≡ first_words key (i - 8) → words ≡ key_expansion key
unfolding key_expansion
key_expansion-filled key words i e len h = sym (take_all 60 words (omega arith)) ∙ (rw e at h)

pub length-first_words : (key : List ℕ) (n : ℕ) → length (first_words key n) ≡ 8 + n
unfolding first_words
length-first_words key zero = refl
length-first_words key (suc n) =
    ap length (first_words-suc key n) ∙ omega (arith, length_push (first_words key n) (next_word (first_words key n) (8 + n)), length-first_words key n)

take-first_words : (key : List ℕ) (n : ℕ) → take 8 (first_words key n) ≡ first_words key 0
unfolding first_words
take-first_words key zero = refl
take-first_words key (suc n) =
    ap (take 8) (first_words-suc key n)
    ∙ take-append-le 8 (first_words key n) (next_word (first_words key n) (8 + n) ∷ []) (omega (arith, length-first_words key n))
    ∙ take-first_words key n

-- the first 8 words of a schedule are the key
pub key_expansion-key : (key : List ℕ) → length key ≡ 32 → flat_map (λ (w : List ℕ). w) (take 8 (key_expansion key)) ≡ key
unfolding key_expansion first_words key_word
key_expansion-key key len =
    ap (flat_map (λ (w : List ℕ). w)) (take-first_words key 52) ∙ sym (fill_by_all (λ k. slice_index key k) key 32 0 len (λ k lt. refl))

pub expanded-key : (key : List ℕ) (words : List (List ℕ)) → length key ≡ 32 → words ≡ key_expansion key → flat_map (λ (w : List ℕ). w) (take 8 words) ≡ key
expanded-key key words len e = rw e (key_expansion-key key len)

-- ---- the words as numbers

-- one word more
pub packed_more : (words : List (List ℕ)) (out : List ℕ) (i number : ℕ) → i < length words → length out ≡ length words
    → words_of (take i out) ≡ take i words → to_be_bytes w32 number ≡ word words i
    → words_of (take (i + 1) (slice_set out i number)) ≡ take (i + 1) words
unfolding words_of
packed_more words out i number lt len so_far e =
    ap (map (to_be_bytes w32)) (take_more_set out i number (omega arith))
    ∙ map_push (to_be_bytes w32) (take i out) number
    ∙ rw (so_far, e) (sym (take_more words i [] lt))

pub packed_all : (words : List (List ℕ)) (out : List ℕ) (i : ℕ) → i ≡ 60 → length words ≡ 60 → length out ≡ 60
    → words_of (take i out) ≡ take i words → words_of out ≡ words
packed_all words out i e len_words len_out so_far =
    ap words_of (sym (take_all i out (omega arith))) ∙ so_far ∙ take_all i words (omega arith)
