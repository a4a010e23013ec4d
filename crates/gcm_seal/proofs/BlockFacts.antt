-- Texts and their blocks.
use Rattle.std.proofs.Common.{◌≡◌, ℕ, zero, suc, ◌+◌, ◌-◌, ◌*◌, ◌/◌, ◌<◌, ◌≤◌, min, List, [], ◌∷◌, ◌++◌, length, take, drop, map, replicate, refl, sym, ap, ◌∙◌, inl, inr, arith, subst, append_assoc, length-append, length-drop}
use Rattle.std.proofs.lemmas.Bool.{cases_lt}
use Rattle.std.proofs.lemmas.List.{length-replicate, append-nil, length-take, drop-append-le, take-append-le, take_all, drop-drop, drop_at, drop-replicate, get_or_append_left, get_or-append_right, same_lists}
use Rattle.std.proofs.lemmas.List.FromFn.{length-map-range_with_len, get_or-map-range_with_len, map-range_with_len_more}
use Rattle.std.proofs.lemmas.List.Concat.{flat_map-append, concat_is}
use Rattle.std.proofs.Math.Seq.{take-add}
use Rattle.std.specs.List.{range_with_len, flat_map, concat}
use Rattle.std.specs.Prelude.{slice_index_or}
use Rattle.ghash_field.specs.declared.Ghash.{Ghash}
use Rattle.ghash_field.specs.Running.{IsGhash}
use Rattle.gcm_seal.specs.Blocks.{block_count, block_at, blocks_of, padded}

-- ---- padded texts

pub length-padded : (text : List ℕ) → length (padded text) ≡ 16 * block_count text
unfolding padded
length-padded text =
    let rest : ℕ = 16 * block_count text - length text in
    let zeros : List ℕ = replicate rest 0 in
    let long : length zeros ≡ rest = length-replicate rest 0 in
    length-append text zeros ∙ omega arith

pub block_count-padded : (text : List ℕ) → block_count (padded text) ≡ block_count text
block_count-padded text = omega (arith, length-padded text)

-- a block of the padded text, from the bytes of the text and zeros
pub block_at-padded : (text : List ℕ) (i size : ℕ) → i < block_count text → size ≡ min (length text - 16 * i) 16
    → take size (drop (16 * i) text) ++ drop size (replicate 16 0) ≡ block_at (padded text) i
unfolding padded
block_at-padded text i size lt e =
    let left : List ℕ = drop (16 * i) text in
    let rest : ℕ = 16 * block_count text - length text in
    let zeros : List ℕ = replicate rest 0 in
    let long : length left ≡ length text - 16 * i = length-drop (16 * i) text in
    let long_zeros : length zeros ≡ rest = length-replicate rest 0 in
    let long_both : length (left ++ zeros) ≡ length left + length zeros = length-append left zeros in
    let cut : drop (16 * i) (text ++ zeros) ≡ left ++ zeros = drop-append-le (16 * i) text zeros (omega arith) in
    ap (λ z. take size left ++ z) (drop-replicate size 16 0)
    ∙ elim (cases_lt (length text - 16 * i) 16) [
      | inl short ↦
          let e' : size ≡ length left = omega arith in
          let e'' : 16 - size ≡ rest = omega arith in
          ap (λ b. b ++ replicate (16 - size) 0) (take_all size left (omega arith))
          ∙ ap (λ n. left ++ replicate n 0) e''
          ∙ sym (ap (take 16) cut ∙ take_all 16 (left ++ zeros) (omega arith))
      | inr whole ↦
          let e' : size ≡ 16 = omega arith in
          ap (λ n. take n left ++ replicate (16 - n) 0) e'
          ∙ append-nil (take 16 left)
          ∙ sym (ap (take 16) cut ∙ take-append-le 16 left zeros (omega arith))
    ]

-- ---- blocks of texts joined

block_at-append_left : (xs ys : List ℕ) (i : ℕ) → 16 * i + 16 ≤ length xs → block_at (xs ++ ys) i ≡ block_at xs i
block_at-append_left xs ys i h =
    let long : length (drop (16 * i) xs) ≡ length xs - 16 * i = length-drop (16 * i) xs in
    ap (take 16) (drop-append-le (16 * i) xs ys (omega arith)) ∙ take-append-le 16 (drop (16 * i) xs) ys (omega arith)

block_at-append_right : (m : ℕ) (xs ys : List ℕ) (i : ℕ) → length xs ≡ 16 * m → m ≤ i → block_at (xs ++ ys) i ≡ block_at ys (i - m)
block_at-append_right m xs ys i len h =
    let place : 16 * m + 16 * (i - m) ≡ 16 * i = omega arith in
    ap (take 16)
    (ap (λ n. drop n (xs ++ ys)) (sym place)
    ∙ sym (drop-drop (16 * (i - m)) (16 * m) (xs ++ ys))
    ∙ ap (drop (16 * (i - m))) (drop_at xs ys (16 * m) len))

-- after a text of whole blocks come the blocks of what follows it
pub blocks_of-append : (m : ℕ) (xs ys : List ℕ) → length xs ≡ 16 * m → blocks_of (xs ++ ys) ≡ blocks_of xs ++ blocks_of ys
unfolding blocks_of
blocks_of-append m xs ys len =
    let first : List (List ℕ) = map (block_at xs) (range_with_len 0 (block_count xs)) in
    let second : List (List ℕ) = map (block_at ys) (range_with_len 0 (block_count ys)) in
    let n : ℕ = block_count (xs ++ ys) in
    let both : length (xs ++ ys) ≡ length xs + length ys = length-append xs ys in
    let long_first : length first ≡ m = length-map-range_with_len (block_at xs) 0 (block_count xs) ∙ omega arith in
    let long_second : length second ≡ block_count ys = length-map-range_with_len (block_at ys) 0 (block_count ys) in
    let long : length (blocks_of (xs ++ ys)) ≡ n = length-map-range_with_len (block_at (xs ++ ys)) 0 n in
    same_lists (blocks_of (xs ++ ys)) (first ++ second) (long ∙ sym (length-append first second ∙ omega arith))
    (λ k d h.
    get_or-map-range_with_len (block_at (xs ++ ys)) 0 n k k d (omega arith) (omega arith)
    ∙ elim (cases_lt k m) [
      | inl below ↦
          block_at-append_left xs ys k (omega arith)
          ∙ sym (get_or_append_left first second d k (omega arith) ∙ get_or-map-range_with_len (block_at xs) 0 (block_count xs) k k d (omega arith) (omega arith))
      | inr above ↦
          block_at-append_right m xs ys k len above
          ∙ sym (get_or-append_right first second m k d long_first above ∙ get_or-map-range_with_len (block_at ys) 0 (block_count ys) (k - m) (k - m) d (omega arith) (omega arith))
    ])

-- 16 bytes are one block
pub blocks_of-one : (xs : List ℕ) → length xs ≡ 16 → blocks_of xs ≡ xs ∷ []
unfolding blocks_of
blocks_of-one xs len =
    ap (λ n. map (block_at xs) (range_with_len 0 n)) (let one : block_count xs ≡ 1 = omega arith in one)
    ∙ ap (λ b. b ∷ []) (take_all 16 xs (omega arith))

-- ---- the loop over the blocks of a padded text

-- one block more
pub padded_more : (hash : Ghash) (h : List ℕ) (text : List ℕ) (blocks : List (List ℕ)) (block : List ℕ) (i : ℕ)
    → block ≡ block_at (padded text) i
    → IsGhash hash h (blocks ++ map (block_at (padded text)) (range_with_len 0 i) ++ block ∷ [])
    → IsGhash hash h (blocks ++ map (block_at (padded text)) (range_with_len 0 (i + 1)))
padded_more hash h text blocks block i e taken =
    let f : ℕ → List ℕ = block_at (padded text) in
    let front : List (List ℕ) = map f (range_with_len 0 i) in
    let all : blocks ++ front ++ block ∷ [] ≡ blocks ++ map f (range_with_len 0 (i + 1)) =
    append_assoc blocks front (block ∷ [])
    ∙ ap (λ b. blocks ++ (front ++ b ∷ [])) e
    ∙ ap (λ r. blocks ++ r) (sym (map-range_with_len_more f 0 i i (omega arith))) in
    subst (λ (bs : List (List ℕ)). IsGhash hash h bs) all taken

pub padded_done : (hash : Ghash) (h : List ℕ) (text : List ℕ) (blocks : List (List ℕ)) (i : ℕ) → i ≡ block_count text
    → IsGhash hash h (blocks ++ map (block_at (padded text)) (range_with_len 0 i))
    → IsGhash hash h (blocks ++ blocks_of (padded text))
unfolding blocks_of
padded_done hash h text blocks i e taken =
    let n : i ≡ block_count (padded text) = e ∙ sym (block_count-padded text) in
    subst (λ (n : ℕ). IsGhash hash h (blocks ++ map (block_at (padded text)) (range_with_len 0 n))) n taken

-- the last block, where it is not whole
pub padded_rest : (hash : Ghash) (h : List ℕ) (text : List ℕ) (blocks : List (List ℕ)) (block : List ℕ) (i whole : ℕ)
    → i ≡ whole → whole ≡ length text / 16 → 16 * whole < length text
    → block ≡ block_at (padded text) whole
    → IsGhash hash h (blocks ++ map (block_at (padded text)) (range_with_len 0 i) ++ block ∷ [])
    → IsGhash hash h (blocks ++ blocks_of (padded text))
padded_rest hash h text blocks block i whole ei ew some e taken =
    padded_done hash h text blocks (i + 1) (omega arith)
    (padded_more hash h text blocks block i (e ∙ ap (block_at (padded text)) (sym ei)) taken)

-- ---- what the blocks are

-- every block has 16 bytes or all that are left
pub length-block_at : (text : List ℕ) (i : ℕ) → length (block_at text i) ≡ min 16 (length text - 16 * i)
length-block_at text i = length-take 16 (drop (16 * i) text) ∙ ap (min 16) (length-drop (16 * i) text)

joined_front : (text : List ℕ) (i : ℕ) → flat_map (λ (b : List ℕ). b) (map (block_at text) (range_with_len 0 i)) ≡ take (16 * i) text
joined_front text zero = refl
joined_front text (suc i) =
    let f : ℕ → List ℕ = block_at text in
    let front : List (List ℕ) = map f (range_with_len 0 i) in
    let count : suc i ≡ i + 1 = omega arith in
    let place : 16 * i + 16 ≡ 16 * suc i = omega arith in
    ap (λ n. flat_map (λ (b : List ℕ). b) (map f (range_with_len 0 n))) count
    ∙ ap (flat_map (λ (b : List ℕ). b)) (map-range_with_len_more f 0 i i (omega arith))
    ∙ flat_map-append (λ (b : List ℕ). b) front (f i ∷ [])
    ∙ ap (λ r. flat_map (λ (b : List ℕ). b) front ++ r) (append-nil (f i))
    ∙ ap (λ r. r ++ f i) (joined_front text i)
    ∙ sym (take-add (16 * i) 16 text)
    ∙ ap (λ n. take n text) place

-- joined they are the text
pub concat-blocks_of : (text : List ℕ) → concat (blocks_of text) ≡ text
unfolding blocks_of
concat-blocks_of text =
    concat_is (blocks_of text) ∙ joined_front text (block_count text) ∙ take_all (16 * block_count text) text (omega arith)

pub length-blocks_of : (text : List ℕ) → length (blocks_of text) ≡ block_count text
unfolding blocks_of
length-blocks_of text = length-map-range_with_len (block_at text) 0 (block_count text)

get_or-blocks_of : (text : List ℕ) (i : ℕ) → i < block_count text → slice_index_or (blocks_of text) i [] ≡ block_at text i
unfolding blocks_of
get_or-blocks_of text i lt = get_or-map-range_with_len (block_at text) 0 (block_count text) i i [] lt (omega arith)

pub block_is_whole : (text : List ℕ) (i : ℕ) → i + 1 < length (blocks_of text) → length (slice_index_or (blocks_of text) i []) ≡ 16
block_is_whole text i lt =
    let many : length (blocks_of text) ≡ block_count text = length-blocks_of text in
    ap length (get_or-blocks_of text i (omega arith)) ∙ length-block_at text i ∙ omega arith

pub last_block_is_short : (text : List ℕ) (i : ℕ) → i + 1 ≡ length (blocks_of text)
    → (0 < length (slice_index_or (blocks_of text) i [])) × (length (slice_index_or (blocks_of text) i []) ≤ 16)
last_block_is_short text i e =
    let many : length (blocks_of text) ≡ block_count text = length-blocks_of text in
    let long : length (slice_index_or (blocks_of text) i []) ≡ min 16 (length text - 16 * i) =
    ap length (get_or-blocks_of text i (omega arith)) ∙ length-block_at text i in
    (omega arith, omega arith)
