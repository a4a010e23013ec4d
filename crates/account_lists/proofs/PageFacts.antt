-- Parts of lists in order of making.
use Rattle.std.proofs.Common.{◌≡◌, ◌≢◌, ◌⊎◌, inl, inr, ℕ, zero, suc, length-append, ◌<◌, ◌≤◌, Bool, true, false, cond, List, [], ◌∷◌, ◌++◌, length, get_or, take, drop, Option, Some, None, refl, sym, ap, ◌∙◌, subst, arith}
use Rattle.std.specs.Prelude.{nat_lt, find, filter, map, option_map, All, AllPairs}
use Rattle.std.specs.List.{last_or}
use Rattle.std.proofs.lemmas.Bool.Decides.{nat_tests}
use Rattle.std.proofs.lemmas.List.Elements.{All-filter}
use Rattle.std.proofs.lemmas.List.{take-append-drop, take_all}
use Rattle.std.proofs.Math.Seq.{take-append_seam}
use Rattle.kms_names.specs.Place.{is_behind}
use Rattle.kms_names.proofs.Behind.{filter_all}
use Rattle.account_lists.specs.Pages.{rows_behind, next_of, PartsFrom, last_part, one_more, PartsMakeTheWhole}

module _ {A : Type 0} (born : A → ℕ) where
  abbrev Rise : List A → Type 0
  Rise rows = AllPairs (λ (p q : A). born p < born q) rows

  abbrev Above : A → List A → Type 0
  Above x rows = All (λ (y : A). born x < born y) rows

  head_below : (x : A) (rows : List A) → Rise (x ∷ rows) → Above x rows
  head_below x rows rise = λ k d lt. rise 0 (suc k) d (omega arith) (omega (arith, lt))

  tail_rises : (x : A) (rows : List A) → Rise (x ∷ rows) → Rise rows
  tail_rises x rows rise = λ i j d lt len. rise (suc i) (suc j) d (omega (arith, lt)) (omega (arith, len))

  -- ---- behind a row stand those above it

  abbrev behind : Option ℕ → A → Bool
  behind after x = is_behind after (born x)

  lower : (after : Option ℕ) (b c : ℕ) → is_behind after b ≡ true → b < c → is_behind after c ≡ true
  lower None b c is lt = refl
  lower (Some place) b c is lt = grind (arith, nat_tests, is, lt)

  not_below : (b c : ℕ) → c ≤ b → nat_lt b c ≡ false
  not_below b c le = grind (arith, nat_tests, le)

  is_above : (b c : ℕ) → b < c → nat_lt b c ≡ true
  is_above b c lt = grind (arith, nat_tests, lt)

  all_behind : (x : A) (rows : List A) (after : Option ℕ) → Above x rows → behind after x ≡ true → rows_behind born after rows ≡ rows
  all_behind x rows after above is = filter_all (behind after) rows (λ k d lt. lower after (born x) (born (get_or rows k d)) is (above k d lt))

  all_above : (x : A) (rows : List A) → Above x rows → rows_behind born (Some (born x)) rows ≡ rows
  all_above x rows above = filter_all (behind (Some (born x))) rows (λ k d lt. is_above (born x) (born (get_or rows k d)) (above k d lt))

  dropped : (b : Bool) (x : A) (rows : List A) → b ≡ false → cond b (x ∷ rows) rows ≡ rows
  dropped true x rows is = absurd (cc)
  dropped false x rows is = refl

  kept : (b : Bool) (x : A) (rows : List A) → b ≡ true → cond b (x ∷ rows) rows ≡ x ∷ rows
  kept true x rows is = refl
  kept false x rows is = absurd (cc)

  -- ---- the first row behind a place

  module _ (listed : A → Bool) where
    abbrev if_listed : A → List A → List A
    if_listed x rows = cond (listed x) (x ∷ rows) rows

    filter_where : (b : Bool) (after : Option ℕ) (x : A) (rows : List A) → rows_behind born after (cond b (x ∷ rows) rows) ≡ cond b (cond (behind after x) (x ∷ rows_behind born after rows) (rows_behind born after rows)) (rows_behind born after rows)
    filter_where true after x rows = refl
    filter_where false after x rows = refl

    same_both : (b : Bool) (rows : List A) → cond b rows rows ≡ rows
    same_both true rows = refl
    same_both false rows = refl

    passed_over : (after : Option ℕ) (x : A) (rows : List A) → behind after x ≡ false → rows_behind born after (if_listed x (filter listed rows)) ≡ rows_behind born after (filter listed rows)
    passed_over after x rows is =
        filter_where (listed x) after x (filter listed rows)
        ∙ ap (λ (ys : List A). cond (listed x) ys (rows_behind born after (filter listed rows))) (dropped (behind after x) x (rows_behind born after (filter listed rows)) is)
        ∙ same_both (listed x) (rows_behind born after (filter listed rows))

    taken : (after : Option ℕ) (x : A) (rows : List A) → behind after x ≡ true → rows_behind born after (if_listed x (filter listed rows)) ≡ if_listed x (rows_behind born after (filter listed rows))
    taken after x rows is =
        filter_where (listed x) after x (filter listed rows)
        ∙ ap (λ (ys : List A). cond (listed x) ys (rows_behind born after (filter listed rows))) (kept (behind after x) x (rows_behind born after (filter listed rows)) is)

    found_above : (rows : List A) (after : Option ℕ) (x row : A) → Above x rows → find (behind after) rows ≡ Some row → born x < born row
    found_above [] after x row above is = cc
    found_above (y ∷ rows) after x row above is = by_test (behind after y) is (found_above rows after x row (λ k d lt. above (suc k) d (omega (arith, lt))))
      where
        by_test : (b : Bool) → cond b (Some y) (find (behind after) rows) ≡ Some row → (find (behind after) rows ≡ Some row → born x < born row) → born x < born row
        by_test true is later = subst (λ (z : A). born x < born z) (let same : y ≡ row = cc in same) (above 0 y (omega arith))
        by_test false is later = later is

    pub step : (rows : List A) → Rise rows → (after : Option ℕ) (row : A) → find (behind after) rows ≡ Some row
        → rows_behind born after (filter listed rows) ≡ if_listed row (rows_behind born (Some (born row)) (filter listed rows))
    step [] rise after row is = cc
    step (x ∷ rows) rise after row is = by_test (behind after x) refl is (step rows (tail_rises x rows rise) after row)
      where
        above : Above x rows
        above = head_below x rows rise

        by_test : (b : Bool) → behind after x ≡ b → cond b (Some x) (find (behind after) rows) ≡ Some row
            → (find (behind after) rows ≡ Some row → rows_behind born after (filter listed rows) ≡ if_listed row (rows_behind born (Some (born row)) (filter listed rows)))
            → rows_behind born after (if_listed x (filter listed rows)) ≡ if_listed row (rows_behind born (Some (born row)) (if_listed x (filter listed rows)))
        by_test true test is later =
            let same : x ≡ row = cc in
            let left = taken after x rows test ∙ ap (if_listed x) (all_behind x (filter listed rows) after (All-filter listed (λ (y : A). born x < born y) rows above) test) in
            let right = passed_over (Some (born x)) x rows (not_below (born x) (born x) (omega arith)) ∙ all_above x (filter listed rows) (All-filter listed (λ (y : A). born x < born y) rows above) in
            subst (λ (r : A). rows_behind born after (if_listed x (filter listed rows)) ≡ if_listed r (rows_behind born (Some (born r)) (if_listed x (filter listed rows)))) same
            (left ∙ ap (if_listed x) (sym right))
        by_test false test is later =
            let lt = found_above rows after x row above is in
            passed_over after x rows test ∙ later is
            ∙ ap (if_listed row) (sym (passed_over (Some (born row)) x rows (not_below (born row) (born x) (omega (arith, lt)))))

    pub none_behind : (rows : List A) (after : Option ℕ) → find (behind after) rows ≡ None → rows_behind born after (filter listed rows) ≡ []
    none_behind [] after is = refl
    none_behind (x ∷ rows) after is = by_test (behind after x) refl is (none_behind rows after)
      where
        by_test : (b : Bool) → behind after x ≡ b → cond b (Some x) (find (behind after) rows) ≡ None → (find (behind after) rows ≡ None → rows_behind born after (filter listed rows) ≡ [])
            → rows_behind born after (if_listed x (filter listed rows)) ≡ []
        by_test true test is later = cc
        by_test false test is later = passed_over after x rows test ∙ later is

  -- ---- parts make the whole

  last_above : (rows : List A) (x : A) (o : Option A) (z : A) → Above x rows → (((w : A) → o ≡ Some w → born x < born w)) → last_or o rows ≡ Some z → born x < born z
  last_above [] x o z above first is = first z is
  last_above (y ∷ rows) x o z above first is =
      last_above rows x (Some y) z (λ k d lt. above (suc k) d (omega (arith, lt))) (λ w same. subst (λ (v : A). born x < born v) (let e : y ≡ w = cc in e) (above 0 y (omega arith))) is

  All-take : (n : ℕ) (x : A) (rows : List A) → Above x rows → Above x (take n rows)
  All-take zero x rows above = λ k d lt. absurd (omega (arith, lt))
  All-take (suc n) x [] above = λ k d lt. absurd (omega (arith, lt))
  All-take (suc n) x (y ∷ rows) above = by_place (All-take n x rows (λ k d lt. above (suc k) d (omega (arith, lt))))
    where
      by_place : Above x (take n rows) → (k : ℕ) (d : A) → k < suc (length (take n rows)) → born x < born (get_or (y ∷ take n rows) k d)
      by_place later zero d lt = above 0 d (omega arith)
      by_place later (suc k) d lt = later k d (omega (arith, lt))

  -- behind the last of the first rows stand the rest
  cut : (rows : List A) → Rise rows → (after : Option ℕ) (n : ℕ) (z : A) → last_or None (take n (rows_behind born after rows)) ≡ Some z
      → rows_behind born (Some (born z)) rows ≡ drop n (rows_behind born after rows)
  cut [] rise after zero z is = refl
  cut [] rise after (suc n) z is = refl
  cut (x ∷ rows) rise after zero z is = cc
  cut (x ∷ rows) rise after (suc n) z is = by_test (behind after x) refl is (cut rows (tail_rises x rows rise))
    where
      Later : Type 0
      Later = (after : Option ℕ) (n : ℕ) (z : A) → last_or None (take n (rows_behind born after rows)) ≡ Some z → rows_behind born (Some (born z)) rows ≡ drop n (rows_behind born after rows)

      above : Above x rows
      above = head_below x rows rise

      rest : List A
      rest = rows_behind born after rows

      by_row : Later → (m : ℕ) (o : List A) → take m rows ≡ o → last_or (Some x) o ≡ Some z → rows_behind born (Some (born z)) (x ∷ rows) ≡ drop m rows
      by_row hence m [] took last =
          let same : x ≡ z = cc in
          subst (λ (v : A). rows_behind born (Some (born v)) (x ∷ rows) ≡ drop m rows) same
          (dropped (behind (Some (born x)) x) x (rows_behind born (Some (born x)) rows) (not_below (born x) (born x) (omega arith)) ∙ all_above x rows above
          ∙ sym (take-append-drop m rows) ∙ ap (λ (ys : List A). ys ++ drop m rows) took)
      by_row hence m (y ∷ ys) took last =
          let whole = filter_all (behind None) rows (λ k d lt. refl) in
          let above_ys : Above x (y ∷ ys) = subst (λ (xs : List A). Above x xs) took (All-take m x rows above) in
          let later = hence None m z (ap (λ (xs : List A). last_or None (take m xs)) whole ∙ ap (last_or None) took ∙ last) in
          let over : born x < born z = last_above (y ∷ ys) x None z above_ys (λ w e. cc) last in
          dropped (behind (Some (born z)) x) x (rows_behind born (Some (born z)) rows) (not_below (born z) (born x) (omega (arith, over)))
          ∙ later ∙ ap (drop m) whole

      by_test : (b : Bool) → behind after x ≡ b → last_or None (take (suc n) (cond b (x ∷ rest) rest)) ≡ Some z
          → Later → rows_behind born (Some (born z)) (x ∷ rows) ≡ drop (suc n) (cond b (x ∷ rest) rest)
      by_test true test last hence =
          let whole = all_behind x rows after above test in
          by_row hence n (take n rows) refl (ap (λ (ys : List A). last_or (Some x) (take n ys)) (sym whole) ∙ last) ∙ ap (drop n) (sym whole)
      by_test false test last hence =
          let over : born x < born z = last_above (take (suc n) rest) x None z (All-take (suc n) x rest (All-filter (behind after) (λ (y : A). born x < born y) rows above)) (λ w e. cc) last in
          dropped (behind (Some (born z)) x) x (rows_behind born (Some (born z)) rows) (not_below (born z) (born x) (omega (arith, over)))
          ∙ hence after (suc n) z last

  -- ---- the law

  module _ (rows : List A) (rise : Rise rows) (limit : ℕ) (some : 1 ≤ limit) where
    some_last : (ys : List A) (o : A) → (z : A) × (last_or (Some o) ys ≡ Some z)
    some_last [] o = (o, refl)
    some_last (y ∷ ys) o = some_last ys y

    none_next : (n : ℕ) (ys : List A) → 1 ≤ n → next_of born n ys ≡ None → take n ys ≡ ys
    none_next n [] le is = take_all n [] (omega arith)
    none_next zero (y ∷ ys) le is = absurd (omega (arith, le))
    none_next (suc n) (y ∷ ys) le is = by_test (nat_lt (suc n) (suc (length ys))) refl is
      where
        by_test : (b : Bool) → nat_lt (suc n) (suc (length ys)) ≡ b → cond b (option_map born (last_or (Some y) (take n ys))) None ≡ None → take (suc n) (y ∷ ys) ≡ y ∷ ys
        by_test true test e = let l = some_last (take n ys) y in absurd (let bad : option_map born (Some l.0) ≡ None = ap (option_map born) (sym l.1) ∙ e in cc)
        by_test false test e = take_all (suc n) (y ∷ ys) (grind (arith, nat_tests, test))

    next_is : (ys : List A) (place : ℕ) → next_of born limit ys ≡ Some place → (z : A) × (last_or None (take limit ys) ≡ Some z) × (born z ≡ place)
    next_is ys place is = by_test (nat_lt limit (length ys)) (last_or None (take limit ys)) refl is
      where
        by_test : (b : Bool) (o : Option A) → last_or None (take limit ys) ≡ o → cond b (option_map born o) None ≡ Some place → (z : A) × (last_or None (take limit ys) ≡ Some z) × (born z ≡ place)
        by_test true None o e = cc
        by_test true (Some z) o e = (z, o, cc)
        by_test false o at e = cc

    pub joined_are : (after : Option ℕ) (joined : List A) → PartsFrom born rows limit after joined → joined ≡ rows_behind born after rows
    joined_are after joined (last_part none) = none_next limit (rows_behind born after rows) some none
    joined_are after joined (one_more {rest = rest} place next later) =
        let last = next_is (rows_behind born after rows) place next in
        let there = joined_are (Some place) rest later in
        let cuts = ap (λ (p : ℕ). rows_behind born (Some p) rows) (sym last.2) ∙ cut rows rise after limit last.0 last.1 in
        ap (λ (ys : List A). take limit (rows_behind born after rows) ++ ys) (there ∙ cuts)
        ∙ take-append-drop limit (rows_behind born after rows)

  pub whole_of : (rows : List A) → PartsMakeTheWhole born rows
  whole_of rows rise limit some after joined parts = joined_are rows rise limit some after joined parts

-- ---- a part as it is gathered

pub record Gathered {A B : Type 0} (born : A → ℕ) (rows : List A) (listed : A → Bool) (shown : A → B) (limit : ℕ) (after at last : Option ℕ) (items : List B) : Type 0 where
  pub rise : AllPairs (λ (p q : A). born p < born q) rows
  pub done : List A
  pub are : items ≡ map shown done
  pub split : rows_behind born after (filter listed rows) ≡ done ++ rows_behind born at (filter listed rows)
  pub last_is : last ≡ option_map born (last_or None done)
  pub few : length done ≤ limit

module _ {A B : Type 0} (born : A → ℕ) (rows : List A) (listed : A → Bool) (shown : A → B) (limit : ℕ) (after : Option ℕ) where
  abbrev IsGathered : Option ℕ → Option ℕ → List B → Type 0
  IsGathered at last items = Gathered born rows listed shown limit after at last items

  abbrev all : List A
  all = filter listed rows

  pub at_first : AllPairs (λ (p q : A). born p < born q) rows → IsGathered after None []
  at_first rise = record { rise = rise; done = []; are = refl; split = refl; last_is = refl; few = omega arith }

  last_pushed : (o : Option A) (done : List A) (row : A) → last_or o (done ++ row ∷ []) ≡ Some row
  last_pushed o [] row = refl
  last_pushed o (x ∷ done) row = last_pushed (Some x) done row

  map_pushed : (done : List A) (row : A) → map shown done ++ shown row ∷ [] ≡ map shown (done ++ row ∷ [])
  map_pushed [] row = refl
  map_pushed (x ∷ done) row = ap (λ (ys : List B). shown x ∷ ys) (map_pushed done row)

  regroup : (done : List A) (row : A) (rest : List A) → done ++ row ∷ rest ≡ (done ++ row ∷ []) ++ rest
  regroup [] row rest = refl
  regroup (x ∷ done) row rest = ap (λ (ys : List A). x ∷ ys) (regroup done row rest)

  length_pushed : (done : List A) (row : A) → length (done ++ row ∷ []) ≡ suc (length done)
  length_pushed [] row = refl
  length_pushed (x ∷ done) row = ap suc (length_pushed done row)

  same_length : (done : List A) → length (map shown done) ≡ length done
  same_length [] = refl
  same_length (x ∷ done) = ap suc (same_length done)

  module _ {at last : Option ℕ} {items : List B} (so_far : IsGathered at last items) where
    module _ (row : A) (found : find (λ (x : A). is_behind at (born x)) rows ≡ Some row) where
      steps : rows_behind born at all ≡ cond (listed row) (row ∷ rows_behind born (Some (born row)) all) (rows_behind born (Some (born row)) all)
      steps = step born listed rows so_far.rise at row found

      when_listed : (b : Bool) → b ≡ true → (ys : List A) → cond b (row ∷ ys) ys ≡ row ∷ ys
      when_listed true is ys = refl
      when_listed false is ys = cc

      when_not : (b : Bool) → b ≡ false → (ys : List A) → cond b (row ∷ ys) ys ≡ ys
      when_not true is ys = cc
      when_not false is ys = refl

      taken_next : listed row ≡ true → rows_behind born after all ≡ so_far.done ++ row ∷ rows_behind born (Some (born row)) all
      taken_next is = so_far.split ∙ ap (λ (ys : List A). so_far.done ++ ys) (steps ∙ when_listed (listed row) is (rows_behind born (Some (born row)) all))

      pub one_taken : listed row ≡ true → length items ≢ limit → IsGathered (Some (born row)) (Some (born row)) (items ++ shown row ∷ [])
      one_taken is few = record {
        rise = so_far.rise;
        done = so_far.done ++ row ∷ [];
        are = ap (λ (ys : List B). ys ++ shown row ∷ []) so_far.are ∙ map_pushed so_far.done row;
        split = taken_next is ∙ regroup so_far.done row (rows_behind born (Some (born row)) all);
        last_is = ap (option_map born) (sym (last_pushed None so_far.done row));
        few = let n = length_pushed so_far.done row in
            let m = ap length so_far.are ∙ same_length so_far.done in
            below (length so_far.done) so_far.few (λ e. few (m ∙ e)) n;
      }
        where
          below : (n : ℕ) → n ≤ limit → (n ≡ limit → ⊥) → length (so_far.done ++ row ∷ []) ≡ suc n → length (so_far.done ++ row ∷ []) ≤ limit
          below n le not is = by_place (grind arith)
            where
              by_place : (n < limit) ⊎ (n ≡ limit) → length (so_far.done ++ row ∷ []) ≤ limit
              by_place (inl lt) = omega (arith, lt, is)
              by_place (inr e) = absurd (not e)

      pub one_passed : listed row ≡ false → IsGathered (Some (born row)) last items
      one_passed is = record {
        rise = so_far.rise;
        done = so_far.done;
        are = so_far.are;
        split = so_far.split ∙ ap (λ (ys : List A). so_far.done ++ ys) (steps ∙ when_not (listed row) is (rows_behind born (Some (born row)) all));
        last_is = so_far.last_is;
        few = so_far.few;
      }

      module _ (is : listed row ≡ true) (full : length items ≡ limit) where
        count : length so_far.done ≡ limit
        count = sym (same_length so_far.done) ∙ sym (ap length so_far.are) ∙ full

        first_rows : take limit (rows_behind born after all) ≡ so_far.done
        first_rows =
            ap (take limit) (taken_next is)
            ∙ ap (λ (n : ℕ). take n (so_far.done ++ row ∷ rows_behind born (Some (born row)) all)) (sym count)
            ∙ take-append_seam so_far.done (row ∷ rows_behind born (Some (born row)) all)

        pub full_rows : items ≡ map shown (take limit (rows_behind born after all))
        full_rows = so_far.are ∙ ap (map shown) (sym first_rows)

        more : nat_lt limit (length (rows_behind born after all)) ≡ true
        more =
            let long = ap length (taken_next is) ∙ length-append so_far.done (row ∷ rows_behind born (Some (born row)) all) in
            is_more limit (length (rows_behind born after all)) (omega (arith, long, count))
          where
            is_more : (a b : ℕ) → a < b → nat_lt a b ≡ true
            is_more a b lt = grind (arith, nat_tests, lt)

        pub full_next : last ≡ next_of born limit (rows_behind born after all)
        full_next =
            so_far.last_is ∙ ap (λ (ys : List A). option_map born (last_or None ys)) (sym first_rows)
            ∙ ap (λ (b : Bool). cond b (option_map born (last_or None (take limit (rows_behind born after all)))) None) (sym more)

    module _ (none : find (λ (x : A). is_behind at (born x)) rows ≡ None) where
      whole : rows_behind born after all ≡ so_far.done
      whole = so_far.split ∙ ap (λ (ys : List A). so_far.done ++ ys) (none_behind born listed rows at none) ∙ append_nothing so_far.done
        where
          append_nothing : (xs : List A) → xs ++ [] ≡ xs
          append_nothing [] = refl
          append_nothing (x ∷ xs) = ap (λ (ys : List A). x ∷ ys) (append_nothing xs)

      pub last_rows : items ≡ map shown (take limit (rows_behind born after all))
      last_rows = so_far.are ∙ ap (map shown) (sym (ap (take limit) whole ∙ take_all limit so_far.done so_far.few))

      pub no_next : None ≡ next_of born limit (rows_behind born after all)
      no_next = ap (λ (b : Bool). cond b (option_map born (last_or None (take limit (rows_behind born after all)))) None) (sym (not_more (length (rows_behind born after all)) (omega (arith, ap length whole, so_far.few))))
        where
          not_more : (n : ℕ) → n ≤ limit → nat_lt limit n ≡ false
          not_more n le = grind (arith, nat_tests, le)

-- what is left grows smaller
pub shorter : {A : Type 0} (born : A → ℕ) (rows : List A) → AllPairs (λ (p q : A). born p < born q) rows → (at : Option ℕ) (row : A) → find (λ (x : A). is_behind at (born x)) rows ≡ Some row
    → length (rows_behind born (Some (born row)) rows) < length (rows_behind born at rows)
shorter {A} born rows rise at row found =
    let every = step born (λ (x : A). true) rows rise at row found in
    let same = filter_all (λ (x : A). true) rows (λ k d lt. refl) in
    let e = ap (rows_behind born at) (sym same) ∙ every ∙ ap (λ (ys : List A). row ∷ rows_behind born (Some (born row)) ys) same in
    omega (arith, ap length e)
