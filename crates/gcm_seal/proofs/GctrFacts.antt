-- GCTR, block by block and byte by byte.
use Rattle.std.proofs.Common.{◌≡◌, ℕ, zero, suc, ◌+◌, ◌-◌, ◌*◌, ◌/◌, ◌%◌, ◌^◌, ◌<◌, ◌≤◌, min, List, [], ◌∷◌, ◌++◌, length, take, drop, slice_index, bit_xor, refl, sym, ap, subst, ◌∙◌, inl, inr, arith, length-append, length-drop, append_assoc}
use borrow.Rule.Slice.PartMut.{put_mid}
use Rattle.std.specs.Int.{w32, from_be_bytes, to_be_bytes}
use Rattle.std.specs.Int.Bits.{xor_assoc, xor_self, xor_zero_r}
use Rattle.std.specs.List.{range_with_len, flat_map}
use Rattle.std.proofs.lemmas.Bool.{cases_lt}
use Rattle.std.proofs.lemmas.Simd.{length-zip2, get_or-zip2, put_chunk_whole}
use Rattle.std.specs.Simd.Lanes.{zip2, put_chunk}
use Rattle.std.proofs.lemmas.List.{drop_more, drop_all, take_all, take_at, take_min, drop_min, drop_at, drop-drop, append-nil, map-id, get_or-take, get_or-drop, get_or_append_left, get_or-append_right, ext_get_or}
use Rattle.std.proofs.lemmas.List.Concat.{flat_map-append}
use Rattle.std.proofs.lemmas.List.FromFn.{fill_by_all, length-map-range_with_len, get_or-map-range_with_len, map-range_with_len_more}
use Rattle.aes_block.specs.Cipher.{cipher}
use Rattle.gcm_seal.specs.Blocks.{block_count, block_at}
use Rattle.gcm_seal.proofs.BlockFacts.{length-block_at}
use Rattle.gcm_seal.specs.Counter.{inc32, xor_bytes, counter_block, output_block, gctr}

-- ---- inc_32

-- the last four bytes of a block
last_four : (block : List ℕ) → length block ≡ 16
    → drop 12 block ≡ slice_index block 12 ∷ slice_index block 13 ∷ slice_index block 14 ∷ slice_index block 15 ∷ []
last_four block len =
    drop_more block 12 0 (omega arith)
    ∙ ap (λ r. slice_index block 12 ∷ r) (drop_more block 13 0 (omega arith)
    ∙ ap (λ r. slice_index block 13 ∷ r) (drop_more block 14 0 (omega arith)
    ∙ ap (λ r. slice_index block 14 ∷ r) (drop_more block 15 0 (omega arith)
    ∙ ap (λ r. slice_index block 15 ∷ r) (drop_all 16 block (omega arith)))))

-- the block with its last four bytes written
pub inc32-written : (block last : List ℕ) → length block ≡ 16
    → last ≡ to_be_bytes w32 ((from_be_bytes w32 (slice_index block 12 ∷ slice_index block 13 ∷ slice_index block 14 ∷ slice_index block 15 ∷ []) + 1) % 2 ^ 32)
    → put_mid 12 4 block last ≡ inc32 block
unfolding inc32
inc32-written block last len e =
    let none : drop 4 (drop 12 block) ≡ [] = drop-drop 4 12 block ∙ drop_all 16 block (omega arith) in
    ap (λ r. take 12 block ++ (last ++ r)) none
    ∙ ap (λ r. take 12 block ++ r) (append-nil last ∙ e ∙ ap (λ four. to_be_bytes w32 ((from_be_bytes w32 four + 1) % 2 ^ 32)) (sym (last_four block len)))

-- ---- the exclusive or of two texts

pub xor_bytes-filled : (x y z : List ℕ) → length z ≡ length x
    → ((k : ℕ) → k < length x → slice_index z k ≡ bit_xor (slice_index x k) (slice_index y k)) → z ≡ xor_bytes x y
unfolding xor_bytes
xor_bytes-filled x y z len each = fill_by_all (λ i. bit_xor (slice_index x i) (slice_index y i)) z (length x) 0 len each

length-xor_bytes : (x y : List ℕ) → length (xor_bytes x y) ≡ length x
unfolding xor_bytes
length-xor_bytes x y = length-map-range_with_len (λ i. bit_xor (slice_index x i) (slice_index y i)) 0 (length x)

get_or-xor_bytes : (x y : List ℕ) (k : ℕ) → k < length x → slice_index (xor_bytes x y) k ≡ bit_xor (slice_index x k) (slice_index y k)
unfolding xor_bytes
get_or-xor_bytes x y k lt =
    get_or-map-range_with_len (λ i. bit_xor (slice_index x i) (slice_index y i)) 0 (length x) k k 0 lt (omega arith)

-- no more of the mask is added than the text is long
xor_bytes-taken : (x y : List ℕ) → xor_bytes x y ≡ xor_bytes x (take (length x) y)
xor_bytes-taken x y =
    xor_bytes-filled x (take (length x) y) (xor_bytes x y) (length-xor_bytes x y)
    (λ k lt. get_or-xor_bytes x y k lt ∙ ap (bit_xor (slice_index x k)) (sym (get_or-take (length x) y k 0 lt)))

-- the lanes of a block, added and written back
pub xor_lanes : (x y : List ℕ) → length x ≡ 16 → length y ≡ 16 → put_chunk 0 x (zip2 bit_xor (take 16 x) y) ≡ xor_bytes x y
xor_lanes x y lx ly =
    let long : length (zip2 bit_xor x y) ≡ length x = length-zip2 bit_xor x y (lx ∙ sym ly) in
    ap (λ (l : List ℕ). put_chunk 0 x (zip2 bit_xor l y)) (take_all 16 x (omega arith))
    ∙ put_chunk_whole x (zip2 bit_xor x y) (sym long)
    ∙ xor_bytes-filled x y (zip2 bit_xor x y) long (λ k lt. get_or-zip2 bit_xor x y k 0 0 0 lt (omega arith))

-- adding the same twice
xor_twice : (a b : ℕ) → bit_xor (bit_xor a b) b ≡ a
xor_twice a b = xor_assoc a b b ∙ ap (bit_xor a) (xor_self b) ∙ xor_zero_r a

-- ---- the output of the first blocks

unfoldable pub front_output : List ℕ → List ℕ → List ℕ → ℕ → List ℕ
front_output key initial text i = flat_map (output_block key initial text) (range_with_len 0 i)

pub front_output-none : (key initial text : List ℕ) → front_output key initial text 0 ≡ []
unfolding front_output
front_output-none key initial text = refl

range-more : (i : ℕ) → range_with_len 0 (i + 1) ≡ range_with_len 0 i ++ i ∷ []
range-more i =
    sym (map-id (range_with_len 0 (i + 1)))
    ∙ map-range_with_len_more (λ j. j) 0 i i (omega arith)
    ∙ ap (λ r. r ++ i ∷ []) (map-id (range_with_len 0 i))

pub front_output-more : (key initial text : List ℕ) (i : ℕ)
    → front_output key initial text (i + 1) ≡ front_output key initial text i ++ output_block key initial text i
unfolding front_output
front_output-more key initial text i =
    let f : ℕ → List ℕ = output_block key initial text in
    ap (flat_map f) (range-more i)
    ∙ flat_map-append f (range_with_len 0 i) (i ∷ [])
    ∙ ap (λ r. flat_map f (range_with_len 0 i) ++ r) (append-nil (f i))

length-output_block : (key initial text : List ℕ) (i : ℕ) → length (output_block key initial text i) ≡ min 16 (length text - 16 * i)
unfolding output_block
length-output_block key initial text i =
    length-xor_bytes (block_at text i) (take (length (block_at text i)) (cipher key (counter_block initial i)))
    ∙ length-block_at text i

pub length-front_output : (key initial text : List ℕ) (i : ℕ) → length (front_output key initial text i) ≡ min (16 * i) (length text)
length-front_output key initial text zero = ap length (front_output-none key initial text) ∙ omega arith
length-front_output key initial text (suc i) =
    let count : suc i ≡ i + 1 = omega arith in
    let front : List ℕ = front_output key initial text i in
    let block : List ℕ = output_block key initial text i in
    let ih : length front ≡ min (16 * i) (length text) = length-front_output key initial text i in
    let long : length block ≡ min 16 (length text - 16 * i) = length-output_block key initial text i in
    ap (λ n. length (front_output key initial text n)) count
    ∙ ap length (front_output-more key initial text i)
    ∙ length-append front block
    ∙ omega arith

-- ---- the bytes of the output

-- byte k of the output
abbrev pub output_byte : List ℕ → List ℕ → List ℕ → ℕ → ℕ
output_byte key initial text k = bit_xor (slice_index text k) (slice_index (cipher key (counter_block initial (k / 16))) (k % 16))

get_or-output_block : (key initial text : List ℕ) (i k : ℕ) → 16 * i ≤ k → k < 16 * i + 16 → k < length text
    → slice_index (output_block key initial text i) (k - 16 * i) ≡ output_byte key initial text k
unfolding output_block
get_or-output_block key initial text i k low high lt =
    let j : ℕ = k - 16 * i in
    let block : List ℕ = block_at text i in
    let mask : List ℕ = cipher key (counter_block initial i) in
    let long : length block ≡ min 16 (length text - 16 * i) = length-block_at text i in
    let place : 16 * i + j ≡ k = omega arith in
    let row : i ≡ k / 16 = omega arith in
    let column : j ≡ k % 16 = omega arith in
    get_or-xor_bytes block (take (length block) mask) j (omega arith)
    ∙ ap (λ b. bit_xor b (slice_index (take (length block) mask) j)) (get_or-take 16 (drop (16 * i) text) j 0 (omega arith) ∙ get_or-drop (16 * i) text j 0 ∙ ap (slice_index text) place)
    ∙ ap (bit_xor (slice_index text k)) (get_or-take (length block) mask j 0 (omega arith))
    ∙ ap (λ n. bit_xor (slice_index text k) (slice_index (cipher key (counter_block initial n)) j)) row
    ∙ ap (λ n. bit_xor (slice_index text k) (slice_index (cipher key (counter_block initial (k / 16))) n)) column

get_or-front_output : (key initial text : List ℕ) (i k : ℕ) → k < 16 * i → k < length text
    → slice_index (front_output key initial text i) k ≡ output_byte key initial text k
get_or-front_output key initial text zero k below lt = absurd (omega arith)
get_or-front_output key initial text (suc i) k below lt =
    let count : suc i ≡ i + 1 = omega arith in
    let front : List ℕ = front_output key initial text i in
    let block : List ℕ = output_block key initial text i in
    let long : length front ≡ min (16 * i) (length text) = length-front_output key initial text i in
    ap (λ n. slice_index (front_output key initial text n) k) count
    ∙ ap (λ xs. slice_index xs k) (front_output-more key initial text i)
    ∙ elim (cases_lt k (16 * i)) [
      | inl before ↦ get_or_append_left front block 0 k (omega arith) ∙ get_or-front_output key initial text i k before lt
      | inr there ↦
          get_or-append_right front block (16 * i) k 0 (omega arith) there
          ∙ get_or-output_block key initial text i k there (omega arith) lt
    ]

-- ---- the whole text

pub length-gctr : (key initial text : List ℕ) → length (gctr key initial text) ≡ length text
unfolding gctr front_output
length-gctr key initial text = length-front_output key initial text (block_count text) ∙ omega arith

pub get_or-gctr : (key initial text : List ℕ) (k : ℕ) → k < length text → slice_index (gctr key initial text) k ≡ output_byte key initial text k
unfolding gctr front_output
get_or-gctr key initial text k lt = get_or-front_output key initial text (block_count text) k (omega arith) lt

-- GCTR of GCTR of a text is the text
pub gctr-gctr : (key initial text : List ℕ) → gctr key initial (gctr key initial text) ≡ text
gctr-gctr key initial text =
    let once : List ℕ = gctr key initial text in
    let long : length once ≡ length text = length-gctr key initial text in
    let long_twice : length (gctr key initial once) ≡ length once = length-gctr key initial once in
    ext_get_or 0 (gctr key initial once) text (long_twice ∙ long)
    (λ k lt.
    let mask : ℕ = slice_index (cipher key (counter_block initial (k / 16))) (k % 16) in
    get_or-gctr key initial once k (omega arith)
    ∙ ap (λ b. bit_xor b mask) (get_or-gctr key initial text k (omega arith))
    ∙ xor_twice (slice_index text k) mask)

-- ---- the loop

pub counter_block-none : (initial : List ℕ) → initial ≡ counter_block initial 0
unfolding counter_block
counter_block-none initial = refl

pub counter_block-more : (initial counter next : List ℕ) (i : ℕ) → counter ≡ counter_block initial i → next ≡ inc32 counter
    → next ≡ counter_block initial (i + 1)
unfolding counter_block
counter_block-more initial counter next i so_far e =
    let count : suc i ≡ i + 1 = omega arith in
    e ∙ ap inc32 so_far ∙ ap (counter_block initial) count

-- one block more, written in its place
pub gctr_more : (key initial old text counter mask written : List ℕ) (i size k : ℕ) → 16 * i < length old
    → size ≡ min (length old - 16 * i) 16 → k ≡ size → counter ≡ counter_block initial i
    → text ≡ front_output key initial old i ++ drop (16 * i) old → mask ≡ cipher key counter
    → written ≡ xor_bytes (take k (drop (16 * i) text)) (take (length (take k (drop (16 * i) text))) mask)
    → put_mid (16 * i) k text written ≡ front_output key initial old (i + 1) ++ drop (16 * (i + 1)) old
unfolding output_block
gctr_more key initial old text counter mask written i size k lt e ek so_far_counter so_far em ew =
    let front : List ℕ = front_output key initial old i in
    let left : List ℕ = drop (16 * i) old in
    let block : List ℕ = block_at old i in
    let long_front : length front ≡ 16 * i = length-front_output key initial old i ∙ omega arith in
    let long_left : length left ≡ length old - 16 * i = length-drop (16 * i) old in
    let size' : k ≡ min 16 (length left) = omega arith in
    let before : take (16 * i) text ≡ front = ap (take (16 * i)) so_far ∙ take_at front left (16 * i) long_front in
    let after : drop (16 * i) text ≡ left = ap (drop (16 * i)) so_far ∙ drop_at front left (16 * i) long_front in
    let part : take k (drop (16 * i) text) ≡ block = ap (take k) after ∙ ap (λ n. take n left) size' ∙ take_min 16 left in
    let rest : drop k (drop (16 * i) text) ≡ drop (16 * (i + 1)) old =
    ap (drop k) after ∙ ap (λ n. drop n left) size' ∙ drop_min 16 left ∙ drop-drop 16 (16 * i) old
    ∙ (let place : 16 * i + 16 ≡ 16 * (i + 1) = omega arith in ap (λ n. drop n old) place) in
    let made : written ≡ output_block key initial old i =
    ew ∙ ap (λ (b : List ℕ). xor_bytes b (take (length b) mask)) part
    ∙ ap (λ m. xor_bytes block (take (length block) m)) (em ∙ ap (cipher key) so_far_counter) in
    ap (λ b. b ++ (written ++ drop k (drop (16 * i) text))) before
    ∙ ap (λ r. front ++ (written ++ r)) rest
    ∙ ap (λ w. front ++ (w ++ drop (16 * (i + 1)) old)) made
    ∙ sym (append_assoc front (output_block key initial old i) (drop (16 * (i + 1)) old))
    ∙ ap (λ f. f ++ drop (16 * (i + 1)) old) (sym (front_output-more key initial old i))

-- a whole block more
pub gctr_more_whole : (key initial old text counter mask written : List ℕ) (i k : ℕ) → 16 * i + 16 ≤ length old → k ≡ 16
    → counter ≡ counter_block initial i → text ≡ front_output key initial old i ++ drop (16 * i) old → mask ≡ cipher key counter
    → written ≡ xor_bytes (take k (drop (16 * i) text)) mask
    → put_mid (16 * i) k text written ≡ front_output key initial old (i + 1) ++ drop (16 * (i + 1)) old
gctr_more_whole key initial old text counter mask written i k le ek so_far_counter so_far em ew =
    gctr_more key initial old text counter mask written i 16 k (omega arith) (omega arith) ek so_far_counter so_far em
    (ew ∙ xor_bytes-taken (take k (drop (16 * i) text)) mask)

pub gctr_done : (key initial old text : List ℕ) (i : ℕ) → i ≡ block_count old
    → text ≡ front_output key initial old i ++ drop (16 * i) old → text ≡ gctr key initial old
unfolding gctr front_output
gctr_done key initial old text i e so_far =
    so_far
    ∙ ap (λ r. front_output key initial old i ++ r) (drop_all (16 * i) old (omega arith))
    ∙ append-nil (front_output key initial old i)
    ∙ ap (front_output key initial old) e

-- the rest after the whole blocks
pub gctr_rest : (key initial old text counter mask written : List ℕ) (i whole size : ℕ) → i ≡ whole → whole ≡ length old / 16 → 16 * whole < length old
    → length text ≡ length old → counter ≡ counter_block initial i → text ≡ front_output key initial old i ++ drop (16 * i) old → mask ≡ cipher key counter
    → size ≡ length text - 16 * whole
    → written ≡ xor_bytes (take size (drop (16 * whole) text)) (take (length (take size (drop (16 * whole) text))) mask)
    → put_mid (16 * whole) size text written ≡ gctr key initial old
gctr_rest key initial old text counter mask written i whole size ei ew some len so_far_counter so_far em es e =
    let P : ℕ → Type 0 = λ n. written ≡ xor_bytes (take size (drop (16 * n) text)) (take (length (take size (drop (16 * n) text))) mask) in
    let e' : P i = subst P (sym ei) e in
    ap (λ n. put_mid (16 * n) size text written) (sym ei)
    ∙ gctr_done key initial old (put_mid (16 * i) size text written) (i + 1) (omega arith)
    (gctr_more key initial old text counter mask written i size size (omega arith) (omega arith) refl so_far_counter so_far em e')
