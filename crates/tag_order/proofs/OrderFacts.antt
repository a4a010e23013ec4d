-- What holds of tags in order.
use Rattle.std.proofs.Common.{◌≡◌, ◌≤◌, ℕ, zero, suc, ◌&&◌, ◌||◌, Bool, true, false, List, [], ◌∷◌, ◌++◌, length, map, get_or, filter, All, AllPairs, refl, sym, ap, ap₂, ◌∙◌, arith}
use Rattle.std.specs.Str.{bytes_eq}
use Rattle.std.specs.Ordering.{is_lt}
use Rattle.std.specs.Cmp.{IsTotalOrder}
use Rattle.std.specs.Cmp.Lexicographic.{nat_list_cmp_total}
use Rattle.std.specs.declared.cmp.Ordering.TheVariants.{Less, Equal}
use Rattle.std.proofs.lemmas.List.{length-map}
use Rattle.std.proofs.lemmas.List.Elements.{All-nil, All-append, All-cons, All-map, All-filter, filter_passes}
use Rattle.std.proofs.lemmas.List.Kept.{AllPairs-cons, AllPairs-filter}
use Rattle.std.proofs.lemmas.List.Folds.{list_any_none}
use Rattle.std.proofs.lemmas.Cmp.{tied_itself}
use Rattle.std.proofs.lemmas.Slice.Eq.{bytes_eq-Decides}
use Rattle.persist_map.specs.Pairs.{Ascends, is_below, is_above, with_pair}
use Rattle.persist_map.proofs.Orders.{less, greater, turned_greater}
use Rattle.resource_tags.specs.declared.tags.Tag.{Tag}
use Rattle.resource_tags.specs.Proper.{has_key, repeats}
use Rattle.resource_tags.specs.Tags.{Tags, by_bytes, with_tags}
use Rattle.resource_tags.proofs.TagFacts.{grows}
use Rattle.tag_order.specs.Order.{tag_of, in_order, is_below_first, are_in_order}

-- ---- the keys ascend

module _ {X : Type 0} (R : X → X → Type 0) where
  pairs_joined : (front back : List X) → AllPairs R front → AllPairs R back → All (λ x. All (R x) back) front → AllPairs R (front ++ back)
  pairs_joined [] back up down before = down
  pairs_joined (x ∷ front) back up down before =
      AllPairs-cons R x (front ++ back)
      (All-append (R x) front back (λ k d lt. up zero (suc k) d (omega arith) (omega (arith, lt))) (before zero x (omega arith)))
      (pairs_joined front back (λ i j d lt within. up (suc i) (suc j) d (omega (arith, lt)) (omega (arith, within))) down (λ k d lt. before (suc k) d (omega (arith, lt))))

order : IsTotalOrder by_bytes
order = nat_list_cmp_total

abbrev IsBefore : List ℕ × List ℕ → List ℕ × List ℕ → Type 0
IsBefore pair later = by_bytes pair.0 later.0 ≡ Less

one_put : (tags : Tags) (key value : List ℕ) → Ascends by_bytes tags → Ascends by_bytes (with_pair by_bytes tags key value)
one_put tags key value up =
    pairs_joined IsBefore (filter (is_below by_bytes key) tags) ((key, value) ∷ filter (is_above by_bytes key) tags)
    (AllPairs-filter IsBefore (is_below by_bytes key) tags up)
    (AllPairs-cons IsBefore (key, value) (filter (is_above by_bytes key) tags) above (AllPairs-filter IsBefore (is_above by_bytes key) tags up))
    (λ k d lt. All-cons (IsBefore (at k d)) (key, value) (filter (is_above by_bytes key) tags) (below k d lt) (λ j e within. order.trans (at k d).0 key _ (below k d lt) (above j e within)))
  where
    at : ℕ → List ℕ × List ℕ → List ℕ × List ℕ
    at k d = get_or (filter (is_below by_bytes key) tags) k d

    above : All (λ pair. by_bytes key pair.0 ≡ Less) (filter (is_above by_bytes key) tags)
    above k d lt = turned_greater order (get_or (filter (is_above by_bytes key) tags) k d).0 key (greater _ (filter_passes (is_above by_bytes key) tags k d lt))

    below : All (λ pair. by_bytes pair.0 key ≡ Less) (filter (is_below by_bytes key) tags)
    below k d lt = less _ (filter_passes (is_below by_bytes key) tags k d lt)

-- tags that are put into ascending ones ascend
pub all_put : (tags : Tags) (more : List Tag) → Ascends by_bytes tags → Ascends by_bytes (with_tags tags more)
all_put tags [] up = up
all_put tags (tag ∷ more) up = all_put (with_pair by_bytes tags tag.key tag.value) more (one_put tags tag.key tag.value up)

pub none_ascend : Ascends {V = List ℕ} by_bytes []
none_ascend i j d lt within = absurd (omega (arith, within))

both_true : (a b : Bool) → a ≡ true → b ≡ true → (a && b) ≡ true
both_true a b first second = ap₂ (λ (x y : Bool). x && y) first second

rest_ascends : (pair : List ℕ × List ℕ) (pairs : Tags) → Ascends by_bytes (pair ∷ pairs) → Ascends by_bytes pairs
rest_ascends pair pairs up i j d lt within = up (suc i) (suc j) d (omega (arith, lt)) (omega (arith, within))

first_below : (pair : List ℕ × List ℕ) (pairs : Tags) → Ascends by_bytes (pair ∷ pairs) → is_below_first pair.0 (map tag_of pairs) ≡ true
first_below pair [] up = refl
first_below pair (next ∷ pairs) up = ap is_lt (up zero (suc zero) pair (omega arith) (omega arith))

ascending_in_order : (pairs : Tags) → Ascends by_bytes pairs → are_in_order (map tag_of pairs) ≡ true
ascending_in_order [] up = refl
ascending_in_order (pair ∷ pairs) up =
    both_true (is_below_first pair.0 (map tag_of pairs)) (are_in_order (map tag_of pairs)) (first_below pair pairs up) (ascending_in_order pairs (rest_ascends pair pairs up))

pub is_in_order : (tags : List Tag) → are_in_order (in_order tags) ≡ true
is_in_order tags = ascending_in_order (with_tags [] tags) (all_put [] tags none_ascend)

-- ---- none stands twice

other_key : (key other : List ℕ) → by_bytes key other ≡ Less → bytes_eq other key ≡ false
other_key key other less_is = by_test (bytes_eq other key) (bytes_eq-Decides other key).0
  where
    by_test : (b : Bool) → (b ≡ true → other ≡ key) → b ≡ false
    by_test false same = refl
    by_test true same =
        let equal : by_bytes key key ≡ Less = ap (λ (k : List ℕ). by_bytes key k) (sym (same refl)) ∙ less_is in
        let bad : Equal ≡ Less = sym (tied_itself order key) ∙ equal in cc

ascending_once : (pairs : Tags) → Ascends by_bytes pairs → repeats (map tag_of pairs) ≡ false
ascending_once [] up = refl
ascending_once (pair ∷ pairs) up =
    ap₂ (λ (x y : Bool). x || y)
    (list_any_none (has_key pair.0) (map tag_of pairs)
    (All-map (λ (tag : Tag). has_key pair.0 tag ≡ false) tag_of pairs (λ k d lt. other_key pair.0 (get_or pairs k d).0 (up zero (suc k) d (omega arith) (omega (arith, lt))))))
    (ascending_once pairs (rest_ascends pair pairs up))

pub in_order_once : (tags : List Tag) → repeats (in_order tags) ≡ false
in_order_once tags = ascending_once (with_tags [] tags) (all_put [] tags none_ascend)

-- ---- they are some of the tags

module _ (P : Tag → Type 0) where
  abbrev Of : List ℕ × List ℕ → Type 0
  Of pair = P (tag_of pair)

  kept : (tags : Tags) (more : List Tag) → All Of tags → All P more → All Of (with_tags tags more)
  kept tags [] all here = all
  kept tags (tag ∷ more) all here =
      kept (with_pair by_bytes tags tag.key tag.value) more
      (All-append Of (filter (is_below by_bytes tag.key) tags) ((tag.key, tag.value) ∷ filter (is_above by_bytes tag.key) tags) (All-filter (is_below by_bytes tag.key) Of tags all)
      (All-cons Of (tag.key, tag.value) (filter (is_above by_bytes tag.key) tags) (here zero tag (omega arith)) (All-filter (is_above by_bytes tag.key) Of tags all)))
      (λ k d lt. here (suc k) d (omega (arith, lt)))

  -- what holds of each holds of each in order
  pub all_in_order : (tags : List Tag) → All P tags → All P (in_order tags)
  all_in_order tags all = All-map P tag_of (with_tags [] tags) (kept [] tags (All-nil Of) all)

pub fewer_in_order : (tags : List Tag) → length (in_order tags) ≤ length tags
fewer_in_order tags = omega (arith, length-map (with_tags [] tags) tag_of, grows [] tags)
