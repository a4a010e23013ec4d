-- The parts of the list of a key's tags.
use Rattle.std.proofs.Common.{◌≡◌, ℕ, zero, suc, ◌-◌, ◌/◌, ◌%◌, ◌<◌, ◌≤◌, Bool, true, false, cond, ◌||◌, List, [], ◌∷◌, ◌++◌, length, take, drop, get_or, Option, Some, None, if◌then◌else◌, refl, sym, ap, ◌∙◌, subst, append_assoc, arith}
use Rattle.std.specs.Prelude.{nat_lt, slice_get, slice_index, map, filter, option_map, All, AllPairs}
use Rattle.std.specs.Char.{is_ascii_uppercase}
use Rattle.std.specs.Cmp.{IsTotalOrder}
use Rattle.std.specs.Cmp.Lexicographic.{nat_list_cmp_total}
use Rattle.std.specs.List.{last_or, list_any}
use Rattle.std.specs.Ordering.{is_gt, ordering_reverse}
use Rattle.std.specs.Result.{result_ok}
use Rattle.std.specs.declared.cmp.Ordering.{Ordering}
use Rattle.std.specs.declared.cmp.Ordering.TheVariants.{Less, Equal, Greater}
use Rattle.std.proofs.lemmas.Bool.{or_parts}
use Rattle.std.proofs.lemmas.Bool.Decides.{nat_tests}
use Rattle.std.proofs.lemmas.Cmp.{tied_itself}
use Rattle.std.proofs.lemmas.List.{take-append-drop, take_all, length-drop}
use Rattle.std.proofs.lemmas.List.Elements.{All-map}
use Rattle.std.proofs.lemmas.List.Kept.{AllPairs-cons}
use Rattle.hex.specs.Hex.{encode_with, encode_lower, lower_digits, decode_of}
use Rattle.hex.proofs.HexLemmas.{decode_of-encode_lower}
use Rattle.kms_names.proofs.Behind.{filter_all}
use Rattle.persist_map.specs.Pairs.{Ascends}
use Rattle.resource_tags.specs.Tags.{Tags, by_bytes}
use Rattle.resource_tags.specs.declared.tags.Tag.{Tag}
use Rattle.account_tags.specs.Pages.{written, behind_key, marker_of, tag_of, is_behind, tags_behind, next_of, PartsFrom, last_part, one_more, PartsOfTagsMakeTheWhole, MarkersReadBack}

-- ---- the last item

last_at : {A : Type 0} (o : Option A) (x : A) (xs : List A) → slice_get (x ∷ xs) (length xs) ≡ last_or o (x ∷ xs)
last_at o x [] = refl
last_at o x (y ∷ ys) = last_at (Some x) y ys

-- the item at the last place is the last
pub last_is : {A : Type 0} (xs : List A) (z : A) → slice_get xs (length xs - 1) ≡ Some z → last_or None xs ≡ Some z
last_is [] z e = cc
last_is (x ∷ xs) z e =
    let place : suc (length xs) - 1 ≡ length xs = omega arith in
    sym (last_at None x xs) ∙ ap (slice_get (x ∷ xs)) (sym place) ∙ e

-- ---- the tags behind a place, as they are gathered

module _ (after : Option (List ℕ)) (all left rest : Tags) (pair : List ℕ × List ℕ) (found : List Tag) (is : left ≡ pair ∷ rest) (so_far : found ++ tags_behind after left ≡ tags_behind after all) where
  abbrev shown : Bool → List Tag
  shown b = if b then tag_of pair ∷ tags_behind after rest else tags_behind after rest

  steps : (b : Bool) → is_behind after pair.0 ≡ b → found ++ shown b ≡ tags_behind after all
  steps b test = ap (λ (tags : List Tag). found ++ tags) (sym (either b) ∙ ap (λ (b : Bool). map tag_of (if b then pair ∷ kept else kept)) (sym test)) ∙ ap (λ (tags : Tags). found ++ tags_behind after tags) (sym is) ∙ so_far
    where
      kept : Tags
      kept = filter (λ pair. is_behind after pair.0) rest

      either : (b : Bool) → map tag_of (if b then pair ∷ kept else kept) ≡ shown b
      either true = refl
      either false = refl

  -- one that is behind it is taken
  pub one_taken : (new : List Tag) → is_behind after pair.0 ≡ true → new ≡ found ++ tag_of pair ∷ [] → new ++ tags_behind after rest ≡ tags_behind after all
  one_taken new test e = ap (λ (tags : List Tag). tags ++ tags_behind after rest) e ∙ append_assoc found (tag_of pair ∷ []) (tags_behind after rest) ∙ steps true test

  -- one that isn't is passed over
  pub one_passed : is_behind after pair.0 ≡ false → found ++ tags_behind after rest ≡ tags_behind after all
  one_passed test = steps false test

-- ---- tags in order of their keys

order : IsTotalOrder by_bytes
order = nat_list_cmp_total

abbrev Below : Tag → Tag → Type 0
Below tag other = by_bytes tag.key other.key ≡ Less

abbrev Rise : List Tag → Type 0
Rise tags = AllPairs Below tags

abbrev behind : Option (List ℕ) → Tag → Bool
behind after tag = is_behind after tag.key

above : (key other : List ℕ) → by_bytes key other ≡ Less → is_gt (by_bytes other key) ≡ true
above key other e = ap is_gt (order.antisymm other key) ∙ ap (λ (o : Ordering). is_gt (ordering_reverse o)) e

less_of : (o : Ordering) → is_gt (ordering_reverse o) ≡ true → o ≡ Less
less_of Less e = refl
less_of Equal e = cc
less_of Greater e = cc

below_of : (key other : List ℕ) → is_gt (by_bytes other key) ≡ true → by_bytes key other ≡ Less
below_of key other e = less_of (by_bytes key other) (ap is_gt (sym (order.antisymm other key)) ∙ e)

higher : (after : Option (List ℕ)) (key other : List ℕ) → is_behind after key ≡ true → by_bytes key other ≡ Less → is_behind after other ≡ true
higher None key other is lt = refl
higher (Some bytes) key other is lt = above bytes other (order.trans bytes key other (below_of bytes key is) lt)

head_below : (tag : Tag) (tags : List Tag) → Rise (tag ∷ tags) → All (Below tag) tags
head_below tag tags rise = λ k d lt. rise 0 (suc k) d (omega arith) (omega (arith, lt))

tail_rises : (tag : Tag) (tags : List Tag) → Rise (tag ∷ tags) → Rise tags
tail_rises tag tags rise = λ i j d lt len. rise (suc i) (suc j) d (omega (arith, lt)) (omega (arith, len))

dropped : (b : Bool) (tag : Tag) (tags : List Tag) → b ≡ false → cond b (tag ∷ tags) tags ≡ tags
dropped true tag tags is = absurd (cc)
dropped false tag tags is = refl

-- what is behind some bytes ends the list
ends_it : (after : Option (List ℕ)) (tags : List Tag) → Rise tags → (front : List Tag) × (tags ≡ front ++ filter (behind after) tags)
ends_it after [] rise = ([], refl)
ends_it after (tag ∷ tags) rise = by_test (behind after tag) refl (ends_it after tags (tail_rises tag tags rise))
  where
    rest : List Tag
    rest = filter (behind after) tags

    by_test : (b : Bool) → behind after tag ≡ b → (front : List Tag) × (tags ≡ front ++ filter (behind after) tags)
        → (front : List Tag) × (tag ∷ tags ≡ front ++ cond b (tag ∷ filter (behind after) tags) (filter (behind after) tags))
    by_test true test later =
        ([], ap (λ (ts : List Tag). tag ∷ ts) (sym (filter_all (behind after) tags (λ k d lt. higher after tag.key (get_or tags k d).key test (head_below tag tags rise k d lt)))))
    by_test false test later = (tag ∷ later.0, ap (λ (ts : List Tag). tag ∷ ts) later.1)

at_seam : (tag : Tag) (front : List Tag) (last : Tag) (rest : List Tag) → All (Below tag) (front ++ last ∷ rest) → Below tag last
at_seam tag [] last rest all = all 0 last (omega arith)
at_seam tag (other ∷ front) last rest all = at_seam tag front last rest (λ k d lt. all (suc k) d (omega (arith, lt)))

-- behind the key of a tag stand the tags that follow it
followers : (front : List Tag) (last : Tag) (rest : List Tag) → Rise (front ++ last ∷ rest) → filter (behind (Some last.key)) (front ++ last ∷ rest) ≡ rest
followers [] last rest rise =
    dropped (behind (Some last.key) last) last (filter (behind (Some last.key)) rest) (ap is_gt (tied_itself order last.key))
    ∙ filter_all (behind (Some last.key)) rest (λ k d lt. above last.key (get_or rest k d).key (head_below last rest rise k d lt))
followers (tag ∷ front) last rest rise =
    dropped (behind (Some last.key) tag) tag (filter (behind (Some last.key)) (front ++ last ∷ rest)) (ap is_gt (at_seam tag front last rest (head_below tag (front ++ last ∷ rest) rise)))
    ∙ followers front last rest (tail_rises tag (front ++ last ∷ rest) rise)

ends_with : (tag : Tag) (tags : List Tag) (last : Tag) → last_or (Some tag) tags ≡ Some last → (front : List Tag) × (tag ∷ tags ≡ front ++ last ∷ [])
ends_with tag [] last e = ([], ap (λ (t : Tag). t ∷ []) (let same : tag ≡ last = cc in same))
ends_with tag (other ∷ tags) last e = let later = ends_with other tags last e in (tag ∷ later.0, ap (λ (ts : List Tag). tag ∷ ts) later.1)

split_last : (tags : List Tag) (last : Tag) → last_or None tags ≡ Some last → (front : List Tag) × (tags ≡ front ++ last ∷ [])
split_last [] last e = cc
split_last (tag ∷ tags) last e = ends_with tag tags last e

-- behind the last of the first tags stand the others
cut : (tags : List Tag) → Rise tags → (after : Option (List ℕ)) (n : ℕ) (last : Tag) → last_or None (take n (filter (behind after) tags)) ≡ Some last
    → filter (behind (Some last.key)) tags ≡ drop n (filter (behind after) tags)
cut tags rise after n last e =
    let here = filter (behind after) tags in
    let end = ends_it after tags rise in
    let first = split_last (take n here) last e in
    let is : tags ≡ (end.0 ++ first.0) ++ last ∷ drop n here =
    end.1
    ∙ ap (λ (ts : List Tag). end.0 ++ ts) (sym (take-append-drop n here) ∙ ap (λ (ts : List Tag). ts ++ drop n here) first.1 ∙ append_assoc first.0 (last ∷ []) (drop n here))
    ∙ sym (append_assoc end.0 first.0 (last ∷ drop n here)) in
    ap (filter (behind (Some last.key))) is ∙ followers (end.0 ++ first.0) last (drop n here) (subst Rise is rise)

-- ---- the tags of a key

tags_rise : (tags : Tags) → Ascends by_bytes tags → Rise (map tag_of tags)
tags_rise [] rise = λ i j d lt len. absurd (omega (arith, len))
tags_rise (pair ∷ tags) rise =
    AllPairs-cons Below (tag_of pair) (map tag_of tags)
    (All-map (Below (tag_of pair)) tag_of tags (λ k d lt. rise 0 (suc k) d (omega arith) (omega (arith, lt))))
    (tags_rise tags (λ i j d lt len. rise (suc i) (suc j) d (omega (arith, lt)) (omega (arith, len))))

-- the tags behind some bytes, among all tags
among : (after : Option (List ℕ)) (tags : Tags) → tags_behind after tags ≡ filter (behind after) (map tag_of tags)
among after [] = refl
among after (pair ∷ tags) = by_test (is_behind after pair.0) (among after tags)
  where
    by_test : (b : Bool) → tags_behind after tags ≡ filter (behind after) (map tag_of tags)
        → map tag_of (cond b (pair ∷ filter (λ (p : List ℕ × List ℕ). is_behind after p.0) tags) (filter (λ (p : List ℕ × List ℕ). is_behind after p.0) tags))
        ≡ cond b (tag_of pair ∷ filter (behind after) (map tag_of tags)) (filter (behind after) (map tag_of tags))
    by_test true later = ap (λ (ts : List Tag). tag_of pair ∷ ts) later
    by_test false later = later

follows : (tags : Tags) → Ascends by_bytes tags → (after : Option (List ℕ)) (n : ℕ) (last : Tag) → last_or None (take n (tags_behind after tags)) ≡ Some last
    → tags_behind (Some last.key) tags ≡ drop n (tags_behind after tags)
follows tags rise after n last e =
    among (Some last.key) tags
    ∙ cut (map tag_of tags) (tags_rise tags rise) after n last (ap (λ (ts : List Tag). last_or None (take n ts)) (sym (among after tags)) ∙ e)
    ∙ ap (drop n) (sym (among after tags))

-- ---- parts make the whole

some_last : (tags : List Tag) (tag : Tag) → (last : Tag) × (last_or (Some tag) tags ≡ Some last)
some_last [] tag = (tag, refl)
some_last (other ∷ tags) tag = some_last tags other

-- the first of some tags have a last one
has_last : (n : ℕ) (tags : List Tag) → 1 ≤ n → n < length tags → (last : Tag) × (last_or None (take n tags) ≡ Some last)
has_last zero tags le lt = absurd (omega (arith, le))
has_last (suc n) [] le lt = absurd (omega (arith, lt))
has_last (suc n) (tag ∷ tags) le lt = some_last (take n tags) tag

module _ (tags : Tags) (rise : Ascends by_bytes tags) (limit : ℕ) (some : 1 ≤ limit) where
  abbrev here : Option (List ℕ) → List Tag
  here after = tags_behind after tags

  none_next : (after : Option (List ℕ)) → next_of limit (here after) ≡ None → take limit (here after) ≡ here after
  none_next after is = by_test (nat_lt limit (length (here after))) refl is
    where
      never : (last : Tag) → last_or None (take limit (here after)) ≡ Some last → option_map marker_of (last_or None (take limit (here after))) ≡ None → ⊥
      never last at_end e = let bad : option_map marker_of (Some last) ≡ None = ap (option_map marker_of) (sym at_end) ∙ e in cc

      by_test : (b : Bool) → nat_lt limit (length (here after)) ≡ b → cond b (option_map marker_of (last_or None (take limit (here after)))) None ≡ None → take limit (here after) ≡ here after
      by_test true test e = let last = has_last limit (here after) some (grind (arith, nat_tests, test)) in absurd (never last.0 last.1 e)
      by_test false test e = take_all limit (here after) (grind (arith, nat_tests, test))

  joined_are : (after : Option (List ℕ)) (joined : List Tag) → PartsFrom tags limit after joined → joined ≡ here after
  joined_are after joined (last_part none) = none_next after none
  joined_are after joined (one_more {rest = rest} last at_end next later) =
      ap (λ (ts : List Tag). take limit (here after) ++ ts) (joined_are (Some last.key) rest later ∙ follows tags rise after limit last at_end)
      ∙ take-append-drop limit (here after)

  abbrev Ends : Option (List ℕ) → Type 0
  Ends after = (joined : List Tag) × PartsFrom tags limit after joined

  -- there are such parts, of at most so many tags in all
  come_to_an_end : (most : ℕ) (after : Option (List ℕ)) → length (here after) ≤ most → Ends after
  come_to_an_end zero after le = (take limit (here after), last_part (no_next (nat_lt limit (length (here after))) refl))
    where
      no_next : (b : Bool) → nat_lt limit (length (here after)) ≡ b → cond b (option_map marker_of (last_or None (take limit (here after)))) None ≡ None
      no_next true test = absurd (let lt : limit < length (here after) = grind (arith, nat_tests, test) in omega (arith, lt, le))
      no_next false test = refl
  come_to_an_end (suc most) after le = by_test (nat_lt limit (length (here after))) refl (λ last. come_to_an_end most (Some last.key))
    where
      with_last : (last : Tag) → last_or None (take limit (here after)) ≡ Some last → nat_lt limit (length (here after)) ≡ true → (length (here (Some last.key)) ≤ most → Ends (Some last.key)) → Ends after
      with_last last at_end test later =
          let fewer = ap length (follows tags rise after limit last at_end) ∙ length-drop limit (here after) in
          let rest = later (omega (arith, fewer, le, some)) in
          let next = ap (λ (b : Bool). cond b (option_map marker_of (last_or None (take limit (here after)))) None) test ∙ ap (option_map marker_of) at_end in
          (take limit (here after) ++ rest.0, one_more last at_end next rest.1)

      by_test : (b : Bool) → nat_lt limit (length (here after)) ≡ b → ((last : Tag) → length (here (Some last.key)) ≤ most → Ends (Some last.key)) → Ends after
      by_test true test later = let last = has_last limit (here after) some (grind (arith, nat_tests, test)) in with_last last.0 last.1 test (later last.0)
      by_test false test later = (take limit (here after), last_part (ap (λ (b : Bool). cond b (option_map marker_of (last_or None (take limit (here after)))) None) test))

pub parts_whole : PartsOfTagsMakeTheWhole
parts_whole tags rise limit some after joined = (joined_are tags rise limit some after joined, made)
  where
    made : joined ≡ tags_behind after tags → PartsFrom tags limit after joined
    made is =
        let ends = come_to_an_end tags rise limit some (length (tags_behind after tags)) after (omega arith) in
        subst (PartsFrom tags limit after) (joined_are tags rise limit some after ends.0 ends.1 ∙ sym is) ends.1

-- ---- markers read back

none_above : (digits : List ℕ) → list_any is_ascii_uppercase digits ≡ false → (d : ℕ) → is_ascii_uppercase (slice_index digits d) ≡ false
none_above [] none d = refl
none_above (digit ∷ digits) none zero = (or_parts (is_ascii_uppercase digit) (list_any is_ascii_uppercase digits) none).0
none_above (digit ∷ digits) none (suc d) = none_above digits (or_parts (is_ascii_uppercase digit) (list_any is_ascii_uppercase digits) none).1 d

either : (x y : Bool) → x ≡ false → y ≡ false → (x || y) ≡ false
either true y e f = cc
either false y e f = f

none_upper : (bytes : List ℕ) → list_any is_ascii_uppercase (encode_lower bytes) ≡ false
unfolding encode_with
none_upper [] = refl
none_upper (byte ∷ bytes) =
    either (is_ascii_uppercase (slice_index lower_digits (byte / 16))) _ (none_above lower_digits refl (byte / 16))
    (either (is_ascii_uppercase (slice_index lower_digits (byte % 16))) (list_any is_ascii_uppercase (encode_lower bytes)) (none_above lower_digits refl (byte % 16)) (none_upper bytes))

pub read_back : MarkersReadBack
unfolding written
read_back tag bytes = ap behind_key (ap (λ (b : Bool). if b then None else result_ok (decode_of (encode_lower tag.key))) (none_upper tag.key) ∙ ap result_ok (decode_of-encode_lower tag.key bytes))
