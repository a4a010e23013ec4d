-- What becomes of tags.
use Rattle.std.proofs.Common.{◌≡◌, ℕ, suc, ◌≤◌, ◌+◌, ◌||◌, Bool, true, false, not, List, [], ◌∷◌, length, length-append, filter, Option, Some, None, if◌then◌else◌, refl, ap, ◌∙◌, arith}
use Rattle.std.proofs.lemmas.List.Filters.{length-filter_both}
use Rattle.std.proofs.lemmas.Cmp.{tied_back}
use Rattle.std.specs.Cmp.{IsTotalOrder}
use Rattle.std.specs.Cmp.Lexicographic.{nat_list_cmp_total}
use Rattle.std.specs.Option.{option_or}
use Rattle.std.specs.Ordering.{is_eq, is_lt, is_gt}
use Rattle.std.specs.declared.cmp.Ordering.{Ordering}
use Rattle.std.specs.declared.cmp.Ordering.TheVariants.{Less, Equal, Greater}
use Rattle.persist_map.specs.Pairs.{has_key, is_below, is_above, value_at, with_pair, without_key}
use Rattle.persist_map.proofs.Laws.{value_at-with_pair, value_at-with_pair-other, value_at-without_key, value_at-without_key-other}
use Rattle.resource_tags.specs.declared.tags.Tag.{Tag}
use Rattle.resource_tags.specs.Tags.{Tags, by_bytes, with_tags, without_tags}
use Rattle.resource_tags.specs.Laws.{last_value, is_among, PutTagsAreThere, DroppedTagsAreGone}

pub shrinks : (tags : Tags) (key : List ℕ) → length (without_key by_bytes tags key) ≤ length tags
shrinks tags key =
    let keep : List ℕ × List ℕ → Bool = λ tag. not (has_key by_bytes key tag) in
    let both = length-filter_both keep (λ tag. not (keep tag)) (λ tag. refl) tags in omega (arith, both)

-- fewer tags are left, or as many
pub fewer : (tags : Tags) (keys : List (List ℕ)) → length (without_tags tags keys) ≤ length tags
fewer tags [] = omega arith
fewer tags (key ∷ keys) = omega (arith, shrinks tags key, fewer (without_key by_bytes tags key) keys)

tied : (o : Ordering) → is_eq o ≡ true → o ≡ Equal
tied Less e = cc
tied Equal e = refl
tied Greater e = cc

order : IsTotalOrder by_bytes
order = nat_list_cmp_total

or_assoc : {A : Type 0} (a b c : Option A) → option_or a (option_or b c) ≡ option_or (option_or a b) c
or_assoc None b c = refl
or_assoc (Some x) b c = refl

-- what a key has once one tag was put
one_put : (tags : Tags) (tag : Tag) (key : List ℕ) (b : Bool) → is_eq (by_bytes tag.key key) ≡ b
    → value_at by_bytes (with_pair by_bytes tags tag.key tag.value) key ≡ option_or (if b then Some tag.value else None) (value_at by_bytes tags key)
one_put tags tag key true is = value_at-with_pair order tags tag.key tag.value key (tied (by_bytes tag.key key) is)
one_put tags tag key false is = value_at-with_pair-other order tags tag.key tag.value key is

pub put_there : PutTagsAreThere
put_there tags [] key = refl
put_there tags (tag ∷ more) key =
    put_there (with_pair by_bytes tags tag.key tag.value) more key
    ∙ ap (λ (o : Option (List ℕ)). option_or (last_value more key) o) (one_put tags tag key (is_eq (by_bytes tag.key key)) refl)
    ∙ or_assoc (last_value more key) (if is_eq (by_bytes tag.key key) then Some tag.value else None) (value_at by_bytes tags key)

none_either : (b : Bool) → ◌≡◌ {A = Option (List ℕ)} (if b then None else None) None
none_either true = refl
none_either false = refl

-- what a key has once one was dropped
one_dropped : (tags : Tags) (other : List ℕ) (keys : List (List ℕ)) (key : List ℕ) (b : Bool) → is_eq (by_bytes key other) ≡ b
    → (if is_among keys key then None else value_at by_bytes (without_key by_bytes tags other) key) ≡ (if b || is_among keys key then None else value_at by_bytes tags key)
one_dropped tags other keys key true is =
    ap (λ (o : Option (List ℕ)). if is_among keys key then None else o) (value_at-without_key order tags other key (tied_back order key other (tied (by_bytes key other) is)))
    ∙ none_either (is_among keys key)
one_dropped tags other keys key false is =
    ap (λ (o : Option (List ℕ)). if is_among keys key then None else o) (value_at-without_key-other order tags other key is)

pub dropped_gone : DroppedTagsAreGone
dropped_gone tags [] key = refl
dropped_gone tags (other ∷ keys) key =
    dropped_gone (without_key by_bytes tags other) keys key ∙ one_dropped tags other keys key (is_eq (by_bytes key other)) refl

-- items that pass one of two tests that exclude one another are no more than all
apart : {A : Type 0} (p q : A → Bool) → ((a : A) → p a ≡ true → q a ≡ false) → (items : List A) → length (filter p items) + length (filter q items) ≤ length items
apart p q exclude [] = omega arith
apart p q exclude (a ∷ items) = by_tests (p a) (q a) (exclude a) (apart p q exclude items)
  where
    by_tests : (x y : Bool) → (x ≡ true → y ≡ false) → length (filter p items) + length (filter q items) ≤ length items
        → length (if x then a ∷ filter p items else filter p items) + length (if y then a ∷ filter q items else filter q items) ≤ suc (length items)
    by_tests true true h e = absurd (let bad : true ≡ false = h refl in cc)
    by_tests true false h e = omega (arith, e)
    by_tests false true h e = omega (arith, e)
    by_tests false false h e = omega (arith, e)

-- a tag that is put makes one more at most
one_more : (tags : Tags) (key value : List ℕ) → length (with_pair by_bytes tags key value) ≤ length tags + 1
one_more tags key value =
    let below : List ℕ × List ℕ → Bool = λ tag. is_below by_bytes key tag in
    let above : List ℕ × List ℕ → Bool = λ tag. is_above by_bytes key tag in
    omega (arith, length-append (filter below tags) ((key, value) ∷ filter above tags), apart below above (λ tag. is_lt_or_gt (by_bytes tag.0 key)) tags)
  where
    is_lt_or_gt : (o : Ordering) → is_lt o ≡ true → is_gt o ≡ false
    is_lt_or_gt Less e = refl
    is_lt_or_gt Equal e = cc
    is_lt_or_gt Greater e = cc

pub grows : (tags : Tags) (more : List Tag) → length (with_tags tags more) ≤ length tags + length more
grows tags [] = omega arith
grows tags (tag ∷ more) = omega (arith, one_more tags tag.key tag.value, grows (with_pair by_bytes tags tag.key tag.value) more)

-- where there are none, 50 of them aren't too many
pub few_from_none : (more : List Tag) → length more ≤ 50 → length (with_tags [] more) ≤ 50
few_from_none more few = omega (arith, few, grows [] more)
