-- The order of keys, and the tests on pairs.
use Rattle.std.proofs.Common.{◌≡◌, ◌≢◌, ◌⊎◌, ℕ, zero, suc, ◌+◌, ◌<◌, false, List, [], ◌∷◌, length, get_or, refl, sym, ap, ◌∙◌, subst, inl, inr, arith}
use Rattle.std.specs.Prelude.{Contains, IsPermutation}
use Rattle.std.specs.Bool.{Decides}
use Rattle.std.specs.List.{swap}
use Rattle.std.specs.Cmp.{IsTotalOrder}
use Rattle.std.specs.Cmp.Lexicographic.{slice_cmp, texts_ties}
use Rattle.std.specs.Ordering.{nat_cmp, is_eq, is_lt, on, then_cmp, ordering_then, ordering_reverse}
use Rattle.std.specs.declared.cmp.Ordering.{Ordering}
use Rattle.std.specs.declared.cmp.Ordering.TheVariants.{Less, Equal, Greater}
use Rattle.std.specs.List.Sorted.{IsSortedBy, IsSearchInRange, IsBinarySearchResult}
use Rattle.std.specs.Prelude.{Result, Ok, Err}
use Rattle.std.specs.Result.{is_ok}
use Rattle.std.proofs.lemmas.Bool.{cases_lt, cases_Bool, false≢true}
use Rattle.std.proofs.lemmas.Bool.Decides.{eqb_tells, Decides-and, Decides-like, Decides-by_and, Decides-by_or}
use Rattle.std.proofs.lemmas.Cmp.{nat_list_cmp_total, on_total, then_total, tied_itself}
use Rattle.std.proofs.lemmas.List.Edits.{swapped_from_swap, length-swap}
use Rattle.std.proofs.lemmas.List.Elements.{Decides-contains}
use Rattle.std.proofs.lemmas.List.Sorted.{IsPermutation-keeps, IsPermutation-sym, Contains-permutation, ranks_by, sorted_far, searchable_from_sorted}
use Rattle.std.proofs.lemmas.Slice.Eq.{bytes_eq-Decides, slice_eq-Decides}
use Rattle.enc_context.specs.declared.pairs.Pair.{Pair}
use Rattle.enc_context.specs.Pairs.{ComesBefore, HasDistinctKeys, IsInOrder, Includes, is_same_pair, has_pair, includes, same_pairs}
use Rattle.enc_context.specs.Laws.{HaveSamePairs}

-- ---- keys

same_when_equal : (a b : List ℕ) → slice_cmp nat_cmp a b ≡ Equal → a ≡ b
same_when_equal a b e = (bytes_eq-Decides a b).0 (texts_ties a b ∙ ap is_eq e)

not_before_itself : (a : List ℕ) → ComesBefore a a → ⊥
not_before_itself a before = let e : slice_cmp nat_cmp a a ≡ Equal = tied_itself nat_list_cmp_total a in cc

back : (a b : List ℕ) (o : Ordering) → slice_cmp nat_cmp a b ≡ o → slice_cmp nat_cmp b a ≡ ordering_reverse o
back a b o e = nat_list_cmp_total.antisymm b a ∙ ap ordering_reverse e

not_both_before : (a b : List ℕ) → ComesBefore a b → ComesBefore b a → ⊥
not_both_before a b before after = let e : slice_cmp nat_cmp b a ≡ Greater = back a b Less before in cc

-- ---- the tests

pub pair_is : (p q : Pair) → p.key ≡ q.key → p.value ≡ q.value → p ≡ q
pair_is p q key value = λ i. record { key = key i; value = value i }

pub same_pair_decides : (p q : Pair) → Decides (is_same_pair p q) (p ≡ q)
same_pair_decides p q =
    Decides-like (is_same_pair p q) (λ (both : (p.key ≡ q.key) × (p.value ≡ q.value)). pair_is p q both.0 both.1)
    (λ (e : p ≡ q). (ap (λ (r : Pair). r.key) e, ap (λ (r : Pair). r.value) e))
    (Decides-and _ _ (bytes_eq-Decides p.key q.key) (bytes_eq-Decides p.value q.value))

pub has_pair_decides : (held : List Pair) (pair : Pair) → Decides (has_pair held pair) (Contains held pair)
has_pair_decides held pair =
    Decides-contains held pair (has_pair held pair)
    (Decides-by_or (λ (p : Pair). is_same_pair p pair) (λ (p : Pair). p ≡ pair) (λ (ps : List Pair). has_pair ps pair)
    (λ (p : Pair). same_pair_decides p pair) refl (λ (p : Pair) (ps : List Pair). refl) held)

pub includes_decides : (held asked : List Pair) → Decides (includes held asked) (Includes held asked)
includes_decides held asked =
    Decides-by_and (has_pair held) (Contains held) (includes held) (has_pair_decides held) refl
    (λ (p : Pair) (ps : List Pair). refl) asked

pub same_pairs_decides : (a b : List Pair) → Decides (same_pairs a b) (a ≡ b)
same_pairs_decides a b = slice_eq-Decides same_pair_decides a b (same_pairs a b) refl

-- ---- lists in order

tail_in_order : (p : Pair) (ps : List Pair) → IsInOrder (p ∷ ps) → IsInOrder ps
tail_in_order p ps in_order i j d below bound = in_order (suc i) (suc j) d (omega arith) (omega arith)

first_before : (p : Pair) (ps : List Pair) → IsInOrder (p ∷ ps) → (q : Pair) → Contains ps q → ComesBefore p.key q.key
first_before p ps in_order q here =
    let bound : here.0 < length ps = here.1 in
    subst (λ (r : Pair). ComesBefore p.key r.key) here.2 (in_order 0 (suc here.0) q (omega arith) (omega arith))

at_front : (p : Pair) (ps : List Pair) → Contains (p ∷ ps) p
at_front p ps = (0, omega arith, refl)

behind : (p : Pair) (ps : List Pair) (q : Pair) → Contains ps q → Contains (p ∷ ps) q
behind p ps q here = let bound : here.0 < length ps = here.1 in (suc here.0, omega arith, here.2)

none_in_nothing : (q : Pair) → Contains [] q → ⊥
none_in_nothing q here = let bound : here.0 < 0 = here.1 in omega arith

front_or_behind : (p : Pair) (ps : List Pair) (q : Pair) (k : ℕ) → k < length (p ∷ ps) → get_or (p ∷ ps) k q ≡ q → (p ≡ q) ⊎ Contains ps q
front_or_behind p ps q zero bound is = inl is
front_or_behind p ps q (suc k) bound is = inr (k, omega arith, is)

cases_of : (p : Pair) (ps : List Pair) (q : Pair) → Contains (p ∷ ps) q → (p ≡ q) ⊎ Contains ps q
cases_of p ps q here = front_or_behind p ps q here.0 here.1 here.2

first_same : (p q : Pair) (ps qs : List Pair) → IsInOrder (p ∷ ps) → IsInOrder (q ∷ qs) → HaveSamePairs (p ∷ ps) (q ∷ qs) → p ≡ q
first_same p q ps qs p_order q_order same =
    elim (cases_of q qs p ((same p).0 (at_front p ps))) [
      | inl e ↦ sym e
      | inr later ↦ elim (cases_of p ps q ((same q).1 (at_front q qs))) [
        | inl e ↦ e
        | inr earlier ↦
            absurd (not_both_before p.key q.key (first_before p ps p_order q earlier) (first_before q qs q_order p later))
      ]
    ]

tail_into : (p q : Pair) (ps qs : List Pair) → p ≡ q → IsInOrder (p ∷ ps) → ((x : Pair) → Contains (p ∷ ps) x → Contains (q ∷ qs) x)
    → (x : Pair) → Contains ps x → Contains qs x
tail_into p q ps qs heads in_order into x here =
    elim (cases_of q qs x (into x (behind p ps x here))) [
      | inl e ↦
          let one : x.key ≡ p.key = ap (λ (r : Pair). r.key) (sym (heads ∙ e)) in
          absurd (not_before_itself p.key (subst (λ (k : List ℕ). ComesBefore p.key k) one (first_before p ps in_order x here)))
      | inr later ↦ later
    ]

pub in_one_order : (a b : List Pair) → IsInOrder a → IsInOrder b → HaveSamePairs a b → a ≡ b
in_one_order [] [] a_order b_order same = refl
in_one_order [] (q ∷ qs) a_order b_order same = absurd (none_in_nothing q ((same q).1 (at_front q qs)))
in_one_order (p ∷ ps) [] a_order b_order same = absurd (none_in_nothing p ((same p).0 (at_front p ps)))
in_one_order (p ∷ ps) (q ∷ qs) a_order b_order same =
    let heads : p ≡ q = first_same p q ps qs a_order b_order same in
    let tails : ps ≡ qs =
    in_one_order ps qs (tail_in_order p ps a_order) (tail_in_order q qs b_order)
    (λ (x : Pair). (
      tail_into p q ps qs heads a_order (λ (y : Pair). (same y).0) x,
      tail_into q p qs ps (sym heads) b_order (λ (y : Pair). (same y).1) x,
    )) in
    λ i. heads i ∷ tails i

-- ---- what a sort leaves

-- no two places have pairs of one key
abbrev IsApart : List Pair → Type 0
IsApart pairs =
    (i j : ℕ) (d : Pair) → i < length pairs → j < length pairs → i ≢ j → (get_or pairs i d).key ≢ (get_or pairs j d).key

-- the place k, at which the element now at i stood before those at a and b were exchanged
abbrev IsSwappedFrom : ℕ → ℕ → ℕ → ℕ → Type 0
IsSwappedFrom a b i k = ((i ≡ a) × (k ≡ b)) ⊎ (((i ≡ b) × (k ≡ a)) ⊎ (k ≡ i) × (i ≢ a) × (i ≢ b))

stood : (pairs : List Pair) (a b : ℕ) (d : Pair) → a < length pairs → b < length pairs → (i : ℕ) → i < length pairs
    → (k : ℕ) × (k < length pairs) × (get_or (swap pairs a b) i d ≡ get_or pairs k d) × IsSwappedFrom a b i k
stood pairs a b d a_in b_in i i_in =
    let swapped = swapped_from_swap pairs (swap pairs a b) a b d a_in b_in refl in
    elim (eqb_tells i a) [
      | inl here ↦ (b, b_in, ap (λ (n : ℕ). get_or (swap pairs a b) n d) here.1 ∙ swapped.0, inl (here.1, refl))
      | inr other ↦ elim (eqb_tells i b) [
        | inl here ↦ (a, a_in, ap (λ (n : ℕ). get_or (swap pairs a b) n d) here.1 ∙ swapped.1, inr (inl (here.1, refl)))
        | inr others ↦ (i, i_in, swapped.2 i other.1 others.1, inr (inr (refl, other.1, others.1)))
      ]
    ]

stay_apart : (a b i j k m : ℕ) → i ≢ j → IsSwappedFrom a b i k → IsSwappedFrom a b j m → k ≢ m
stay_apart a b i j k m apart one two same =
    elim one [
      | inl u ↦ elim two [ inl v ↦ omega arith | inr v ↦ elim v [ inl w ↦ omega arith | inr w ↦ omega arith ] ]
      | inr u ↦ elim u [
        | inl u ↦ elim two [ inl v ↦ omega arith | inr v ↦ elim v [ inl w ↦ omega arith | inr w ↦ omega arith ] ]
        | inr u ↦ elim two [ inl v ↦ omega arith | inr v ↦ elim v [ inl w ↦ omega arith | inr w ↦ omega arith ] ]
      ]
    ]

apart_after_swap : (pairs : List Pair) (a b : ℕ) → a < length pairs → b < length pairs → IsApart pairs → IsApart (swap pairs a b)
apart_after_swap pairs a b a_in b_in apart i j d i_in j_in differ same =
    let i_before = stood pairs a b d a_in b_in i (rw length-swap at i_in) in
    let j_before = stood pairs a b d a_in b_in j (rw length-swap at j_in) in
    apart i_before.0 j_before.0 d i_before.1 j_before.1 (stay_apart a b i j i_before.0 j_before.0 differ i_before.3 j_before.3)
    (ap (λ (r : Pair). r.key) (sym i_before.2) ∙ same ∙ ap (λ (r : Pair). r.key) j_before.2)

apart_from_distinct : (pairs : List Pair) → HasDistinctKeys pairs → IsApart pairs
apart_from_distinct pairs distinct i j d i_in j_in differ same =
    elim (cases_lt i j) [
      | inl below ↦ distinct i j d below j_in same
      | inr above ↦ distinct j i d (omega arith) i_in (sym same)
    ]

-- the order of pairs, by the key and then by the value
abbrev pub pair_cmp : Pair → Pair → Ordering
pair_cmp = then_cmp (on (λ (p : Pair). p.key) (slice_cmp nat_cmp)) (on (λ (p : Pair). p.value) (slice_cmp nat_cmp))

pair_cmp_total : IsTotalOrder pair_cmp
pair_cmp_total =
    then_total (on_total (λ (p : Pair). p.key) nat_list_cmp_total) (on_total (λ (p : Pair). p.value) nat_list_cmp_total)

decided : (a b : List ℕ) (o v : Ordering) → slice_cmp nat_cmp b a ≡ o → is_lt (ordering_then o v) ≡ false → a ≢ b → ComesBefore a b
decided a b Less v e not_less differ = absurd (false≢true (sym not_less))
decided a b Equal v e not_less differ = absurd (differ (sym (same_when_equal b a e)))
decided a b Greater v e not_less differ = back b a Greater e

-- a sorted list of pairs of distinct keys is in order
pub in_order_from_sort : (before after : List Pair) → HasDistinctKeys before → IsPermutation before after
    → IsSortedBy (λ p q. is_lt (pair_cmp p q)) after → IsInOrder after
in_order_from_sort before after distinct permuted sorted i j d below bound =
    let apart : IsApart after =
    IsPermutation-keeps before IsApart (apart_from_distinct before distinct) apart_after_swap after permuted in
    let p = get_or after i d in
    let q = get_or after j d in
    decided p.key q.key (slice_cmp nat_cmp q.key p.key) (slice_cmp nat_cmp q.value p.value) refl
    (sorted_far (λ (x y : Pair). is_lt (pair_cmp x y)) (ranks_by pair_cmp_total (λ (x : Pair). x)) after sorted i j d (omega arith) bound)
    (apart i j d (omega arith) bound (omega arith))

pub same_from_permutation : (a b : List Pair) → IsPermutation a b → HaveSamePairs a b
same_from_permutation a b permuted pair =
    (Contains-permutation a b pair permuted, Contains-permutation b a pair (IsPermutation-sym a b permuted))

-- keys in order are distinct
pub distinct_from_order : (pairs : List Pair) → IsInOrder pairs → HasDistinctKeys pairs
distinct_from_order pairs in_order i j d below bound same =
    let p = get_or pairs i d in
    let q = get_or pairs j d in
    not_before_itself p.key (subst (λ (k : List ℕ). ComesBefore p.key k) (sym same) (in_order i j d below bound))

-- ---- a search

first_equal : (o v : Ordering) → ordering_then o v ≡ Equal → (o ≡ Equal) × (v ≡ Equal)
first_equal Less v e = cc
first_equal Equal v e = (refl, e)
first_equal Greater v e = cc

same_when_tied : (p q : Pair) → pair_cmp p q ≡ Equal → p ≡ q
same_when_tied p q e =
    let parts = first_equal (slice_cmp nat_cmp p.key q.key) (slice_cmp nat_cmp p.value q.value) e in
    pair_is p q (same_when_equal p.key q.key parts.0) (same_when_equal p.value q.value parts.1)

sorted_when_in_order : (pairs : List Pair) → IsInOrder pairs → IsSortedBy (λ p q. is_lt (pair_cmp p q)) pairs
sorted_when_in_order pairs in_order k d low high =
    let p = get_or pairs k d in
    let q = get_or pairs (k + 1) d in
    ap (λ (o : Ordering). is_lt (ordering_then o (slice_cmp nat_cmp q.value p.value)))
    (back p.key q.key Less (in_order k (k + 1) d (omega arith) high))

-- a binary search finds a pair exactly where it is
pub search_tells : (pairs : List Pair) (pair : Pair) (r : Result ℕ ℕ) → IsInOrder pairs → IsSearchInRange r (length pairs)
    → IsBinarySearchResult (λ p. pair_cmp p pair) pairs r → is_ok r ≡ has_pair pairs pair
search_tells pairs pair (Ok i) in_order bound found =
    sym ((has_pair_decides pairs pair).1 (i, bound, same_when_tied (get_or pairs i pair) pair (found pair)))
search_tells pairs pair (Err i) in_order bound found =
    let rises =
    searchable_from_sorted pair_cmp_total (λ (p : Pair). p) pairs pair (sorted_when_in_order pairs in_order) in
    let around = found rises in
    elim (cases_Bool (has_pair pairs pair)) [
      | inr none ↦ sym none
      | inl some ↦
          let here = (has_pair_decides pairs pair).0 some in
          let tied : pair_cmp pair pair ≡ Equal = tied_itself pair_cmp_total pair in
          let here_in : here.0 < length pairs = here.1 in
          elim (cases_lt here.0 i) [
            | inl low ↦
                let below : pair_cmp pair pair ≡ Less =
                subst (λ (p : Pair). pair_cmp p pair ≡ Less) here.2 (around.0 here.0 pair (omega arith) low) in
                absurd (cc)
            | inr high ↦
                let above : pair_cmp pair pair ≡ Greater =
                subst (λ (p : Pair). pair_cmp p pair ≡ Greater) here.2 (around.1 here.0 pair high here_in) in
                absurd (cc)
          ]
    ]
