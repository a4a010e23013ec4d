-- Tags: two of them compared, and the hash under one.
use Rattle.std.proofs.Common.{◌≡◌, ◌↔◌, IsTrue, nat_eq, ℕ, ◌+◌, ◌<◌, ◌≤◌, List, [], ◌∷◌, ◌++◌, length, drop, replicate, slice_index, bit_xor, bit_or, refl, sym, ap, ◌∙◌, arith, below_more, append_assoc}
use borrow.Rule.Slice.PartMut.{put_mid}
use Rattle.std.specs.Int.Bits.{xor_assoc, xor_self, xor_zero_l, xor_zero_r, or_zero_l}
use Rattle.std.proofs.lemmas.Nat.{le_or_l, le_or_r}
use Rattle.std.proofs.lemmas.Bool.{eqb-true, eq-eqb}
use Rattle.std.proofs.lemmas.List.{ext_get_or, take_at, drop_at, drop_all, append-nil}
use Rattle.gcm_seal.specs.Blocks.{block_count, blocks_of, padded}
use Rattle.aes_block.specs.Cipher.{cipher}
use Rattle.ghash_field.specs.Ghash.{ghash}
use Rattle.gcm_seal.specs.Counter.{gctr}
use Rattle.gcm_seal.specs.Gcm.{hash_subkey, lengths_block, hash_of, pre_counter_block, tag_of}
use Rattle.gcm_seal.proofs.BlockFacts.{length-padded, blocks_of-append, blocks_of-one}
use Rattle.gcm_seal.proofs.SealFacts.{tag_of-whole}

-- numbers whose exclusive or is 0 are equal
equal_from_xor : (a b : ℕ) → bit_xor a b ≡ 0 → a ≡ b
equal_from_xor a b e =
    sym (xor_zero_r a) ∙ ap (bit_xor a) (sym (xor_self b)) ∙ sym (xor_assoc a b b) ∙ ap (λ n. bit_xor n b) e ∙ xor_zero_l b

xor_from_equal : (a b : ℕ) → a ≡ b → bit_xor a b ≡ 0
xor_from_equal a b e = ap (λ n. bit_xor n b) e ∙ xor_self b

-- one place more of two lists compared
pub compared_more : (xs ys : List ℕ) (difference i : ℕ)
    → (difference ≡ 0) ↔ ((k : ℕ) → k < i → slice_index xs k ≡ slice_index ys k)
    → (bit_or difference (bit_xor (slice_index xs i) (slice_index ys i)) ≡ 0)
    ↔ ((k : ℕ) → k < i + 1 → slice_index xs k ≡ slice_index ys k)
compared_more xs ys difference i so_far =
    let here : ℕ = bit_xor (slice_index xs i) (slice_index ys i) in
    let least : difference ≤ bit_or difference here = le_or_l difference here in
    let least' : here ≤ bit_or difference here = le_or_r difference here in (
      λ none.
          below_more (λ k. slice_index xs k ≡ slice_index ys k) i (so_far.0 (omega arith))
          (equal_from_xor (slice_index xs i) (slice_index ys i) (omega arith)),
      λ each.
          let before : difference ≡ 0 = so_far.1 (λ k lt. each k (omega arith)) in
          let there : here ≡ 0 = xor_from_equal (slice_index xs i) (slice_index ys i) (each i (omega arith)) in
          ap (λ n. bit_or n here) before ∙ or_zero_l here ∙ there,
    )

-- the blocks of what is hashed
pub hashed_blocks : (aad ciphertext lengths : List ℕ) → length lengths ≡ 16
    → blocks_of (padded aad) ++ blocks_of (padded ciphertext) ++ lengths ∷ [] ≡ blocks_of (padded aad ++ padded ciphertext ++ lengths)
hashed_blocks aad ciphertext lengths len =
    let a : List ℕ = padded aad in
    let c : List ℕ = padded ciphertext in
    sym (ap blocks_of (append_assoc a c lengths)
    ∙ blocks_of-append (block_count aad) a (c ++ lengths) (length-padded aad)
    ∙ ap (λ r. blocks_of a ++ r) (blocks_of-append (block_count ciphertext) c lengths (length-padded ciphertext)
    ∙ ap (λ r. blocks_of c ++ r) (blocks_of-one lengths len))
    ∙ sym (append_assoc (blocks_of a) (blocks_of c) (lengths ∷ [])))

-- all 16 places compared
pub compared_all : (xs ys : List ℕ) (difference i : ℕ) → length xs ≡ 16 → length ys ≡ 16 → i ≡ 16
    → (difference ≡ 0) ↔ ((k : ℕ) → k < i → slice_index xs k ≡ slice_index ys k)
    → IsTrue (nat_eq difference 0) ↔ (xs ≡ ys)
compared_all xs ys difference i lx ly e so_far = (
  λ same. ext_get_or 0 xs ys (lx ∙ sym ly) (λ k lt. so_far.0 (eqb-true difference 0 same) k (omega arith)),
  λ equal. eq-eqb difference 0 (so_far.1 (λ k lt. ap (λ zs. slice_index zs k) equal)),
)

-- ---- blocks written in two parts

pub halves_written : (first second zeros : List ℕ) → length first ≡ 8 → length zeros ≡ 8
    → put_mid 8 8 (first ++ zeros) second ≡ first ++ second
halves_written first second zeros len len' =
    ap (λ t. t ++ (second ++ drop 8 (drop 8 (first ++ zeros)))) (take_at first zeros 8 len)
    ∙ ap (λ r. first ++ (second ++ drop 8 r)) (drop_at first zeros 8 len)
    ∙ ap (λ r. first ++ (second ++ r)) (drop_all 8 zeros (omega arith))
    ∙ ap (λ r. first ++ r) (append-nil second)

-- ---- the tag

length-lengths_block : (aad ciphertext : List ℕ) → length (lengths_block aad ciphertext) ≡ 16
unfolding lengths_block
length-lengths_block aad ciphertext = refl

-- the tag, from the hash of the blocks
pub tag_made : (key iv aad ciphertext h lengths initial value tag : List ℕ) → h ≡ cipher key (replicate 16 0)
    → lengths ≡ lengths_block aad ciphertext → initial ≡ pre_counter_block iv
    → value ≡ ghash h (blocks_of (padded aad) ++ blocks_of (padded ciphertext) ++ lengths ∷ [])
    → tag ≡ gctr key initial value → tag ≡ tag_of key iv aad ciphertext
unfolding hash_of hash_subkey
tag_made key iv aad ciphertext h lengths initial value tag eh el ei ev et =
    let blocks : List (List ℕ) = blocks_of (padded aad) ++ blocks_of (padded ciphertext) ++ lengths ∷ [] in
    let hashed : value ≡ hash_of key aad ciphertext =
    ev
    ∙ ap (λ k. ghash k blocks) eh
    ∙ ap (λ (l : List ℕ). ghash (hash_subkey key) (blocks_of (padded aad) ++ blocks_of (padded ciphertext) ++ l ∷ [])) el
    ∙ ap (ghash (hash_subkey key)) (hashed_blocks aad ciphertext (lengths_block aad ciphertext) (length-lengths_block aad ciphertext)) in
    et
    ∙ ap (λ i. gctr key i value) ei
    ∙ ap (gctr key (pre_counter_block iv)) hashed
    ∙ sym (tag_of-whole key iv aad ciphertext)
