-- The bytes of an encoding.
use Rattle.std.proofs.Common.{◌≡◌, ℕ, ◌+◌, ◌<◌, ◌≤◌, ◌^◌, List, [], ◌∷◌, ◌++◌, length, take, drop, get_or, refl, sym, ap, ◌∙◌, subst, append_assoc, append-nil, arith, length-append}
use Rattle.std.specs.Prelude.{IsPermutation}
use Rattle.std.specs.Int.{w32, to_be_bytes, from_be_bytes}
use Rattle.std.specs.List.{flat_map}
use Rattle.std.proofs.lemmas.List.{take_at, drop_at, take_more}
use Rattle.std.proofs.lemmas.List.Concat.{flat_map-append, length-flat_map}
use Rattle.std.proofs.lemmas.List.Folds.{length-flat_map-take}
use Rattle.std.proofs.lemmas.List.Sorted.{sum_by-IsPermutation}
use Rattle.std.proofs.lemmas.Nat.{from_be_bytes-to_be_bytes_4}
use Rattle.enc_context.specs.declared.pairs.Pair.{Pair}
use Rattle.enc_context.specs.Encoding.{text_encoding, pair_encoding, encoding_of, IsContext}
use Rattle.enc_context.specs.Laws.{HaveSamePairs, EncodingsTellContexts}
use Rattle.enc_context.specs.Pairs.{HasDistinctKeys}
use Rattle.enc_context.proofs.PairFacts.{pair_is, in_one_order, in_order_from_sort, pair_cmp}
use Rattle.std.specs.Ordering.{is_lt}
use Rattle.std.specs.List.Sorted.{IsSortedBy}

-- ---- sizes

pub text_encoding_size : (text : List ℕ) → length (text_encoding text) ≡ 4 + length text
unfolding text_encoding
text_encoding_size text = length-append (to_be_bytes w32 (length text)) text

pub pair_encoding_size : (pair : Pair) → length (pair_encoding pair) ≡ 8 + length pair.key + length pair.value
pair_encoding_size pair =
    omega (arith, length-append (text_encoding pair.key) (text_encoding pair.value), text_encoding_size pair.key, text_encoding_size pair.value)

-- one more pair
pub encoding_of_more : (pairs : List Pair) (i : ℕ) (d : Pair) → i < length pairs
    → encoding_of (take (i + 1) pairs) ≡ encoding_of (take i pairs) ++ pair_encoding (get_or pairs i d)
unfolding encoding_of
encoding_of_more pairs i d bound =
    ap (flat_map pair_encoding) (take_more pairs i d bound)
    ∙ flat_map-append pair_encoding (take i pairs) (get_or pairs i d ∷ [])
    ∙ ap (λ (rest : List ℕ). flat_map pair_encoding (take i pairs) ++ rest) (append-nil (pair_encoding (get_or pairs i d)))

-- the pairs up to one, and it, are a part of the whole
pub encoding_of_part : (pairs : List Pair) (i : ℕ) (d : Pair) → i < length pairs
    → length (encoding_of (take i pairs)) + length (pair_encoding (get_or pairs i d)) ≤ length (encoding_of pairs)
unfolding encoding_of
encoding_of_part pairs i d bound = length-flat_map-take pair_encoding pairs i d bound

-- the order of the pairs does not change the size
pub size_from_permutation : (a b : List Pair) → IsPermutation a b → length (encoding_of b) ≡ length (encoding_of a)
unfolding encoding_of
size_from_permutation a b permuted =
    length-flat_map pair_encoding b
    ∙ sum_by-IsPermutation (λ (p : Pair). length (pair_encoding p)) a b permuted
    ∙ sym (length-flat_map pair_encoding a)

-- a pair that stands in a list, in the form in which a loop reads it
pub part_of : (pairs : List Pair) (i : ℕ) (p : Pair) → i < length pairs → p ≡ get_or pairs i p
    → length (encoding_of (take i pairs)) + length (pair_encoding p) ≤ length (encoding_of pairs)
part_of pairs i p bound is =
    subst (λ (q : Pair). length (encoding_of (take i pairs)) + length (pair_encoding q) ≤ length (encoding_of pairs)) (sym is)
    (encoding_of_part pairs i p bound)

pub more_of : (pairs : List Pair) (i : ℕ) (p : Pair) → i < length pairs → p ≡ get_or pairs i p
    → encoding_of (take (i + 1) pairs) ≡ encoding_of (take i pairs) ++ pair_encoding p
more_of pairs i p bound is =
    encoding_of_more pairs i p bound ∙ ap (λ (q : Pair). encoding_of (take i pairs) ++ pair_encoding q) (sym is)

pub encoding_of_none : encoding_of [] ≡ []
unfolding encoding_of
encoding_of_none = refl

-- what a sort leaves is a context
pub context_from_sort : (before after : List Pair) → HasDistinctKeys before → IsPermutation before after
    → IsSortedBy (λ p q. is_lt (pair_cmp p q)) after → length (encoding_of before) ≤ 8192 → IsContext after
context_from_sort before after distinct permuted sorted fits = record {
  in_order = in_order_from_sort before after distinct permuted sorted;
  fits = rw (size_from_permutation before after permuted) fits;
}

-- ---- what an encoding tells

text_told : (a b x y : List ℕ) → length a < 2 ^ 32 → length b < 2 ^ 32
    → text_encoding a ++ x ≡ text_encoding b ++ y → (a ≡ b) × (x ≡ y)
unfolding text_encoding
text_told a b x y a_fits b_fits same =
    let one : to_be_bytes w32 (length a) ++ (a ++ x) ≡ to_be_bytes w32 (length b) ++ (b ++ y) =
    sym (append_assoc (to_be_bytes w32 (length a)) a x) ∙ same ∙ append_assoc (to_be_bytes w32 (length b)) b y in
    let lengths : to_be_bytes w32 (length a) ≡ to_be_bytes w32 (length b) =
    sym (take_at (to_be_bytes w32 (length a)) (a ++ x) 4 refl) ∙ ap (take 4) one
    ∙ take_at (to_be_bytes w32 (length b)) (b ++ y) 4 refl in
    let size : length a ≡ length b =
    sym (from_be_bytes-to_be_bytes_4 (length a) a_fits) ∙ ap (from_be_bytes w32) lengths
    ∙ from_be_bytes-to_be_bytes_4 (length b) b_fits in
    let rest : a ++ x ≡ b ++ y =
    sym (drop_at (to_be_bytes w32 (length a)) (a ++ x) 4 refl) ∙ ap (drop 4) one
    ∙ drop_at (to_be_bytes w32 (length b)) (b ++ y) 4 refl in (
      sym (take_at a x (length a) refl) ∙ ap (take (length a)) rest ∙ take_at b y (length a) (sym size),
      sym (drop_at a x (length a) refl) ∙ ap (drop (length a)) rest ∙ drop_at b y (length a) (sym size),
    )

pair_told : (p q : Pair) (x y : List ℕ) → length (pair_encoding p) < 2 ^ 32 → length (pair_encoding q) < 2 ^ 32
    → pair_encoding p ++ x ≡ pair_encoding q ++ y → (p ≡ q) × (x ≡ y)
pair_told p q x y p_fits q_fits same =
    let p_size = pair_encoding_size p in
    let q_size = pair_encoding_size q in
    let keys =
    text_told p.key q.key (text_encoding p.value ++ x) (text_encoding q.value ++ y) (omega arith) (omega arith)
    (sym (append_assoc (text_encoding p.key) (text_encoding p.value) x) ∙ same
    ∙ append_assoc (text_encoding q.key) (text_encoding q.value) y) in
    let values = text_told p.value q.value x y (omega arith) (omega arith) keys.1 in
    (pair_is p q keys.0 values.0, values.1)

told : (a b : List Pair) → length (flat_map pair_encoding a) < 2 ^ 32 → length (flat_map pair_encoding b) < 2 ^ 32
    → flat_map pair_encoding a ≡ flat_map pair_encoding b → a ≡ b
told [] [] a_fits b_fits same = refl
told [] (q ∷ qs) a_fits b_fits same =
    let size = ap length same in
    absurd (omega (arith, size, length-append (pair_encoding q) (flat_map pair_encoding qs), pair_encoding_size q))
told (p ∷ ps) [] a_fits b_fits same =
    let size = ap length same in
    absurd (omega (arith, size, length-append (pair_encoding p) (flat_map pair_encoding ps), pair_encoding_size p))
told (p ∷ ps) (q ∷ qs) a_fits b_fits same =
    let a_size = length-append (pair_encoding p) (flat_map pair_encoding ps) in
    let b_size = length-append (pair_encoding q) (flat_map pair_encoding qs) in
    let heads = pair_told p q (flat_map pair_encoding ps) (flat_map pair_encoding qs) (omega arith) (omega arith) same in
    let tails : ps ≡ qs = told ps qs (omega arith) (omega arith) heads.1 in
    λ i. heads.0 i ∷ tails i

encoding_told : (a b : List Pair) → IsContext a → IsContext b → encoding_of a ≡ encoding_of b → a ≡ b
unfolding encoding_of
encoding_told a b a_is b_is same =
    let a_fits = a_is.fits in
    let b_fits = b_is.fits in
    told a b (omega arith) (omega arith) same

pub tell_contexts : EncodingsTellContexts
tell_contexts a b a_is b_is = (
  λ (same : encoding_of a ≡ encoding_of b). subst (λ (c : List Pair). HaveSamePairs a c) (encoding_told a b a_is b_is same) (λ (p : Pair). (λ h. h, λ h. h)),
  λ (same : HaveSamePairs a b). ap encoding_of (in_one_order a b a_is.in_order b_is.in_order same),
)
