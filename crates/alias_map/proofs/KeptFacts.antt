-- Aliases by place, by name and by key, after a row was put or taken out.
use Rattle.std.proofs.Common.{◌≡◌, ◌≢◌, ℕ, ◌<◌, Bool, true, false, not, cond, List, [], ◌∷◌, ◌++◌, length, get_or, filter, All, Option, Some, None, refl, sym, ap, ◌∙◌, subst, arith}
use Rattle.std.specs.Prelude.{◌&&◌, MatchOption}
use Rattle.std.specs.Cmp.{nat_cmp_is}
use Rattle.std.specs.Cmp.Lexicographic.{slice_cmp, texts_ties}
use Rattle.std.specs.List.{AllByRecursion}
use Rattle.std.specs.Option.{option_map}
use Rattle.std.specs.Ordering.{nat_cmp, is_lt, is_eq, is_gt}
use Rattle.std.specs.declared.cmp.Ordering.TheVariants.{Less, Equal, Greater}
use Rattle.std.proofs.lemmas.Bool.{false≢true}
use Rattle.std.proofs.lemmas.Cmp.{nat_cmp_total, nat_list_cmp_total, tied_itself}
use Rattle.std.proofs.lemmas.List.{length-map, get_or-map, map-append}
use Rattle.std.proofs.lemmas.List.Elements.{recursion_from_All, All-append, All-cons, All-filter}
use Rattle.std.proofs.lemmas.Option.{none-some, same_Some}
use Rattle.std.proofs.lemmas.Slice.Eq.{bytes_eq-Decides}
use Rattle.kms_names.specs.Place.{is_behind}
use Rattle.persist_map.specs.Pairs.{Ascends, is_below, is_above, has_key, value_at, with_pair, without_key}
use Rattle.std.specs.Str.{bytes_eq}
use Rattle.persist_map.specs.Groups.{pairs_behind, group_of, group_with, group_without, IsIndexOf}
use Rattle.persist_map.proofs.Edits.{filter_all, filter_none, tested}
use Rattle.persist_map.proofs.Filters.{with_pair_over}
use Rattle.persist_map.proofs.Indexes.{index_with, index_without, none_behind, with_row_behind}
use Rattle.persist_map.proofs.Laws.{find_kept, find_left_out, value_at-with_pair, value_at-with_pair-other, value_at-without_key, value_at-without_key-other}
use Rattle.persist_map.proofs.Orders.{equal, turned_less, greater_later, Precedes, Rises, Rises-from_ascends, every_weaker}
use Rattle.alias_map.specs.declared.rows.AliasRow.{AliasRow}
use Rattle.alias_map.specs.Aliases.{has_name, names_key, row_named, row_after, row_of_key, with_row, without, AreBefore, MayPut, AreAliases}
use Rattle.alias_map.specs.Kept.{rows_in, AreKept}
use Rattle.alias_map.proofs.AliasFacts.{same_name, apart, aliases_behind, differ_behind, with_row_keeps, without_keeps}
use Rattle.alias_map.proofs.Reading.{Agree, filter_alike, find_alike, found_has, every_of_rows, every_in_rows, filter_filter, first_in, first_row, rows_in-filter, rows_in-find}

abbrev Pairs : Type 0
Pairs = List (ℕ × AliasRow)

-- a row stands at the place of its making
abbrev IsPlaced : ℕ × AliasRow → Type 0
IsPlaced pair = pair.0 ≡ pair.1.born

-- ---- places ascend as the rows were made

pub ascends_in : (pairs : Pairs) → All IsPlaced pairs → AreAliases (rows_in pairs) → Ascends nat_cmp pairs
ascends_in pairs placed aliases i j d before within =
    let born_at : (k : ℕ) → k < length pairs → (get_or (rows_in pairs) k d.1).born ≡ (get_or pairs k d).0 = λ k lt. ap (λ (row : AliasRow). row.born) (get_or-map (λ (pair : ℕ × AliasRow). pair.1) pairs k d d.1 lt) ∙ sym (placed k d lt) in
    let less : (get_or (rows_in pairs) i d.1).born < (get_or (rows_in pairs) j d.1).born = aliases.1 i j d.1 before (omega (arith, length-map pairs (λ (pair : ℕ × AliasRow). pair.1))) in
    let first : (get_or (rows_in pairs) i d.1).born ≡ (get_or pairs i d).0 = born_at i (omega arith) in
    let second : (get_or (rows_in pairs) j d.1).born ≡ (get_or pairs j d).0 = born_at j within in
    sym (nat_cmp_is (get_or pairs i d).0 (get_or pairs j d).0 Less (subst (λ n. n < (get_or pairs j d).0) first (subst (λ n. (get_or (rows_in pairs) i d.1).born < n) second less)))

rises_in : (pairs : Pairs) → All IsPlaced pairs → AreAliases (rows_in pairs) → Rises nat_cmp pairs
rises_in pairs placed aliases = Rises-from_ascends nat_cmp pairs (ascends_in pairs placed aliases)

every_placed : (pairs : Pairs) → All IsPlaced pairs → AllByRecursion IsPlaced pairs
every_placed = recursion_from_All IsPlaced

-- ---- look-ups

module _ (pairs : Pairs) (after : Option ℕ) where
  behind_agree : (pairs : Pairs) → AllByRecursion IsPlaced pairs → Agree (λ (pair : ℕ × AliasRow). is_behind after pair.0) (λ pair. is_behind after pair.1.born) pairs
  behind_agree = every_weaker nat_cmp IsPlaced (λ pair. is_behind after pair.0 ≡ is_behind after pair.1.born) (λ pair e. ap (is_behind after) e)

  -- the first row that was made behind a place
  pub first_of_all : All IsPlaced pairs → option_map (λ (pair : ℕ × AliasRow). pair.1) (first_in (pairs_behind pairs after)) ≡ row_after (rows_in pairs) after
  first_of_all placed = first_row (λ (row : AliasRow). is_behind after row.born) (λ pair. is_behind after pair.0) pairs (behind_agree pairs (every_placed pairs placed))

  pub first_of_key : (key : List ℕ) → All IsPlaced pairs → option_map (λ (pair : ℕ × AliasRow). pair.1) (first_in (pairs_behind (filter (λ (pair : ℕ × AliasRow). names_key key pair.1) pairs) after)) ≡ row_of_key (rows_in pairs) key after
  first_of_key key placed =
      ap (λ l. option_map (λ (pair : ℕ × AliasRow). pair.1) (first_in l)) (filter_filter (λ pair. is_behind after pair.0) (λ pair. names_key key pair.1) pairs)
      ∙ first_row (λ row. names_key key row && is_behind after row.born) (λ pair. names_key key pair.1 && is_behind after pair.0) pairs
      (every_weaker nat_cmp (λ pair. is_behind after pair.0 ≡ is_behind after pair.1.born) (λ pair. (names_key key pair.1 && is_behind after pair.0) ≡ (names_key key pair.1 && is_behind after pair.1.born)) (λ pair e. ap (λ b. names_key key pair.1 && b) e) pairs (behind_agree pairs (every_placed pairs placed)))

-- ---- the row of a name stands at its place

-- what all rows have, the row of a name has
named_has : (P : AliasRow → Type 0) (pairs : Pairs) (name : List ℕ) (row : AliasRow) → row_named (rows_in pairs) name ≡ Some row → AllByRecursion (λ pair. P pair.1) pairs → P row
named_has P pairs name row is all = found_has P (has_name name) (rows_in pairs) row is (every_in_rows P pairs all)

abbrev HasSame : List ℕ → ℕ → ℕ × AliasRow → Type 0
HasSame name place pair = has_key nat_cmp place pair ≡ has_name name pair.1

-- a place is the first of a list, and those behind it are others
here_equal : (place other : ℕ) → other ≡ place → nat_cmp other place ≡ Equal
here_equal place other e = ap (λ n. nat_cmp n place) e ∙ tied_itself nat_cmp_total place

others_differ : (pair : ℕ × AliasRow) (pairs : Pairs) → AreAliases (rows_in (pair ∷ pairs)) → AllByRecursion (λ other. pair.1.name ≢ other.1.name) pairs
others_differ pair pairs aliases = every_of_rows (λ (row : AliasRow). pair.1.name ≢ row.name) pairs (differ_behind pair.1 (rows_in pairs) aliases)

both_hold : {P Q R : ℕ × AliasRow → Type 0} → ((pair : ℕ × AliasRow) → P pair → Q pair → R pair) → (pairs : Pairs) → AllByRecursion P pairs → AllByRecursion Q pairs → AllByRecursion R pairs
both_hold f [] h k = tt
both_hold f (pair ∷ pairs) h k = (f pair h.0 k.0, both_hold f pairs h.1 k.1)

pub has_same : (pairs : Pairs) (name : List ℕ) (old : AliasRow) → Rises nat_cmp pairs → AllByRecursion IsPlaced pairs → AreAliases (rows_in pairs) → row_named (rows_in pairs) name ≡ Some old → AllByRecursion (HasSame name old.born) pairs
has_same [] name old up placed aliases is = tt
has_same (pair ∷ pairs) name old up placed aliases is = by_test (has_name name pair.1) refl (has_same pairs name old up.1 placed.1 (aliases_behind pair.1 (rows_in pairs) aliases)) is
  where
    behind_here : pair.1.name ≡ name → pair.0 ≡ old.born → AllByRecursion (HasSame name old.born) pairs
    behind_here same place = both_hold
        (λ other before differ. ap is_eq (ap (nat_cmp other.0) (sym place) ∙ turned_less nat_cmp_total pair.0 other.0 before) ∙ sym (apart other.1.name name (λ e. differ (same ∙ sym e))))
        pairs up.0 (others_differ pair pairs aliases)

    before_old : row_named (rows_in pairs) name ≡ Some old → nat_cmp pair.0 old.born ≡ Less
    before_old is = named_has (λ (row : AliasRow). nat_cmp pair.0 row.born ≡ Less) pairs name old is (both_hold (λ other before place. ap (nat_cmp pair.0) (sym place) ∙ before) pairs up.0 placed.1)

    by_test : (b : Bool) → has_name name pair.1 ≡ b → (row_named (rows_in pairs) name ≡ Some old → AllByRecursion (HasSame name old.born) pairs) → cond b (Some pair.1) (row_named (rows_in pairs) name) ≡ Some old → AllByRecursion (HasSame name old.born) (pair ∷ pairs)
    by_test true e later is =
        let place : pair.0 ≡ old.born = placed.0 ∙ ap (λ (row : AliasRow). row.born) (same_Some pair.1 old is) in
        (ap is_eq (here_equal old.born pair.0 place) ∙ sym e, behind_here (same_name name pair.1 e) place)
    by_test false e later is = (ap is_eq (before_old is) ∙ sym e, later is)

module _ (pairs : Pairs) (name : List ℕ) (old : AliasRow) (placed : All IsPlaced pairs) (aliases : AreAliases (rows_in pairs)) (is : row_named (rows_in pairs) name ≡ Some old) where
  same_in : AllByRecursion (HasSame name old.born) pairs
  same_in = has_same pairs name old (rises_in pairs placed aliases) (every_placed pairs placed) aliases is

  pub old_there : value_at nat_cmp pairs old.born ≡ Some old
  old_there = ap (option_map (λ (pair : ℕ × AliasRow). pair.1)) (find_alike (has_key nat_cmp old.born) (λ pair. has_name name pair.1) pairs same_in) ∙ rows_in-find (has_name name) pairs ∙ is

  pub rows_without : rows_in (without_key nat_cmp pairs old.born) ≡ without (rows_in pairs) name
  rows_without =
      ap rows_in (filter_alike (λ pair. not (has_key nat_cmp old.born pair)) (λ pair. not (has_name name pair.1)) pairs (every_weaker nat_cmp (HasSame name old.born) (λ pair. not (has_key nat_cmp old.born pair) ≡ not (has_name name pair.1)) (λ pair e. ap not e) pairs same_in))
      ∙ rows_in-filter (λ row. not (has_name name row)) pairs

-- ---- a row in place of the one of its name, or behind all

module _ (place : ℕ) (row : AliasRow) where
  abbrev put_in : Pairs → Pairs
  put_in pairs = with_pair nat_cmp pairs place row

  put_here : (pair : ℕ × AliasRow) (pairs : Pairs) → Rises nat_cmp (pair ∷ pairs) → nat_cmp pair.0 place ≡ Equal → put_in (pair ∷ pairs) ≡ (place, row) ∷ pairs
  put_here pair pairs up e =
      let above : AllByRecursion (λ other. nat_cmp other.0 place ≡ Greater) pairs = every_weaker nat_cmp (Precedes nat_cmp pair) (λ other. nat_cmp other.0 place ≡ Greater) (λ other before. greater_later nat_cmp_total pair.0 other.0 place before (ap is_lt e)) pairs up.0 in
      ap (λ o. cond (is_lt o) (pair ∷ filter (is_below nat_cmp place) pairs) (filter (is_below nat_cmp place) pairs) ++ ((place, row) ∷ filter (is_above nat_cmp place) (pair ∷ pairs))) e
      ∙ ap (λ l. l ++ ((place, row) ∷ filter (is_above nat_cmp place) (pair ∷ pairs))) (filter_none (is_below nat_cmp place) pairs (tested nat_cmp place is_lt false Greater refl pairs above))
      ∙ ap (λ o. (place, row) ∷ cond (is_gt o) (pair ∷ filter (is_above nat_cmp place) pairs) (filter (is_above nat_cmp place) pairs)) e
      ∙ ap (λ (l : Pairs). (place, row) ∷ l) (filter_all (is_above nat_cmp place) pairs (tested nat_cmp place is_gt true Greater refl pairs above))

  put_later : (pair : ℕ × AliasRow) (pairs : Pairs) → nat_cmp pair.0 place ≡ Less → put_in (pair ∷ pairs) ≡ pair ∷ put_in pairs
  put_later pair pairs e =
      ap (λ o. cond (is_lt o) (pair ∷ filter (is_below nat_cmp place) pairs) (filter (is_below nat_cmp place) pairs) ++ ((place, row) ∷ cond (is_gt o) (pair ∷ filter (is_above nat_cmp place) pairs) (filter (is_above nat_cmp place) pairs))) e

  -- the row of a name is behind a row of another name
  put_over : (pairs : Pairs) (old : AliasRow) → Rises nat_cmp pairs → AllByRecursion IsPlaced pairs → row_named (rows_in pairs) row.name ≡ Some old → old.born ≡ place → rows_in (put_in pairs) ≡ with_row (rows_in pairs) row
  put_over [] old up placed is born = absurd (none-some old is)
  put_over (pair ∷ pairs) old up placed is born = by_test (has_name row.name pair.1) (λ later. put_over pairs old up.1 placed.1 later born) is
    where
      before_old : row_named (rows_in pairs) row.name ≡ Some old → nat_cmp pair.0 place ≡ Less
      before_old is = ap (nat_cmp pair.0) (sym born) ∙ named_has (λ (other : AliasRow). nat_cmp pair.0 other.born ≡ Less) pairs row.name old is (both_hold (λ other before place. ap (nat_cmp pair.0) (sym place) ∙ before) pairs up.0 placed.1)

      by_test : (b : Bool) → (row_named (rows_in pairs) row.name ≡ Some old → rows_in (put_in pairs) ≡ with_row (rows_in pairs) row) → cond b (Some pair.1) (row_named (rows_in pairs) row.name) ≡ Some old → rows_in (put_in (pair ∷ pairs)) ≡ cond b (row ∷ rows_in pairs) (pair.1 ∷ with_row (rows_in pairs) row)
      by_test true later is = ap rows_in (put_here pair pairs up (here_equal place pair.0 (placed.0 ∙ ap (λ (other : AliasRow). other.born) (same_Some pair.1 old is) ∙ born)))
      by_test false later is = ap rows_in (put_later pair pairs (before_old is)) ∙ ap (λ l. pair.1 ∷ l) (later is)

-- a row behind all, where none has its name
behind_all : (rows : List AliasRow) (row : AliasRow) → row_named rows row.name ≡ None → rows ++ (row ∷ []) ≡ with_row rows row
behind_all [] row none = refl
behind_all (first ∷ rest) row none = by_test (has_name row.name first) (behind_all rest row) none
  where
    by_test : (b : Bool) → (row_named rest row.name ≡ None → rest ++ (row ∷ []) ≡ with_row rest row) → cond b (Some first) (row_named rest row.name) ≡ None → first ∷ (rest ++ (row ∷ [])) ≡ cond b (row ∷ rest) (first ∷ with_row rest row)
    by_test true later none = absurd (none-some first (sym none))
    by_test false later none = ap (λ l. first ∷ l) (later none)

-- ---- what is found by a name

same_bytes : (a b : List ℕ) → slice_cmp nat_cmp a b ≡ Equal → a ≡ b
same_bytes a b e = (bytes_eq-Decides a b).0 (texts_ties a b ∙ ap is_eq e)

named_with : (rows : List AliasRow) (row : AliasRow) (name : List ℕ) → row_named (with_row rows row) name ≡ cond (has_name name row) (Some row) (row_named rows name)
named_with [] row name = refl
named_with (first ∷ rest) row name = by_first (has_name row.name first) refl (named_with rest row name)
  where
    -- the first row has the name that the new one has, which stands in its place
    in_place : first.name ≡ row.name → (b : Bool) → has_name name row ≡ b → cond b (Some row) (row_named rest name) ≡ cond b (Some row) (cond (has_name name first) (Some first) (row_named rest name))
    in_place same true e = refl
    in_place same false e = sym (ap (λ b. cond b (Some first) (row_named rest name)) (ap (λ n. bytes_eq n name) same ∙ e))

    -- the first row has another name
    past : first.name ≢ row.name → (b : Bool) → has_name name row ≡ b → row_named (with_row rest row) name ≡ cond b (Some row) (row_named rest name) → cond (has_name name first) (Some first) (row_named (with_row rest row) name) ≡ cond b (Some row) (cond (has_name name first) (Some first) (row_named rest name))
    past differ true e later = ap (λ b. cond b (Some first) (row_named (with_row rest row) name)) (apart first.name name (λ f. differ (f ∙ sym (same_name name row e)))) ∙ later
    past differ false e later = ap (λ o. cond (has_name name first) (Some first) o) later

    by_first : (b : Bool) → has_name row.name first ≡ b → row_named (with_row rest row) name ≡ cond (has_name name row) (Some row) (row_named rest name) → row_named (cond b (row ∷ rest) (first ∷ with_row rest row)) name ≡ cond (has_name name row) (Some row) (cond (has_name name first) (Some first) (row_named rest name))
    by_first true e later = in_place (same_name row.name first e) (has_name name row) refl
    by_first false e later = past (λ same. false≢true (sym e ∙ (bytes_eq-Decides first.name row.name).1 same)) (has_name name row) refl later

module _ (by_name : List (List ℕ × AliasRow)) (rows : List AliasRow) (named : (name : List ℕ) → value_at (slice_cmp nat_cmp) by_name name ≡ row_named rows name) where
  names_with : (row : AliasRow) (name : List ℕ) → value_at (slice_cmp nat_cmp) (with_pair (slice_cmp nat_cmp) by_name row.name row) name ≡ row_named (with_row rows row) name
  names_with row name = by_test (is_eq (slice_cmp nat_cmp row.name name)) refl ∙ sym (named_with rows row name)
    where
      by_test : (b : Bool) → is_eq (slice_cmp nat_cmp row.name name) ≡ b → value_at (slice_cmp nat_cmp) (with_pair (slice_cmp nat_cmp) by_name row.name row) name ≡ cond (has_name name row) (Some row) (row_named rows name)
      by_test true e =
          value_at-with_pair nat_list_cmp_total by_name row.name row name (equal (slice_cmp nat_cmp row.name name) e)
          ∙ sym (ap (λ b. cond b (Some row) (row_named rows name)) (texts_ties row.name name ∙ e))
      by_test false e =
          value_at-with_pair-other nat_list_cmp_total by_name row.name row name e ∙ named name
          ∙ sym (ap (λ b. cond b (Some row) (row_named rows name)) (texts_ties row.name name ∙ e))

  names_without : (name other : List ℕ) → value_at (slice_cmp nat_cmp) (without_key (slice_cmp nat_cmp) by_name name) other ≡ row_named (without rows name) other
  names_without name other = by_test (is_eq (slice_cmp nat_cmp other name)) refl
    where
      gone : other ≡ name → (row : AliasRow) → has_name other row ≡ true → not (has_name name row) ≡ false
      gone same row e = ap not ((bytes_eq-Decides row.name name).1 (same_name other row e ∙ same))

      stays : is_eq (slice_cmp nat_cmp other name) ≡ false → (row : AliasRow) → has_name other row ≡ true → not (has_name name row) ≡ true
      stays e row f = ap not (ap (λ n. bytes_eq n name) (same_name other row f) ∙ texts_ties other name ∙ e)

      by_test : (b : Bool) → is_eq (slice_cmp nat_cmp other name) ≡ b → value_at (slice_cmp nat_cmp) (without_key (slice_cmp nat_cmp) by_name name) other ≡ row_named (without rows name) other
      by_test true e =
          let same = same_bytes other name (equal (slice_cmp nat_cmp other name) e) in
          value_at-without_key nat_list_cmp_total by_name name other (ap (slice_cmp nat_cmp name) same ∙ tied_itself nat_list_cmp_total name)
          ∙ sym (find_left_out (has_name other) (λ row. not (has_name name row)) (gone same) rows)
      by_test false e =
          value_at-without_key-other nat_list_cmp_total by_name name other e ∙ named other
          ∙ sym (find_kept (has_name other) (λ row. not (has_name name row)) (stays e) rows)

-- ---- all of it

of_its_key : (row : AliasRow) (key : List ℕ) → names_key key row ≡ is_eq (slice_cmp nat_cmp row.key key)
of_its_key row key = texts_ties row.key key

placed_with : (pairs : Pairs) (row : AliasRow) → All IsPlaced pairs → All IsPlaced (with_pair nat_cmp pairs row.born row)
placed_with pairs row placed =
    All-append IsPlaced (filter (is_below nat_cmp row.born) pairs) ((row.born, row) ∷ filter (is_above nat_cmp row.born) pairs) (All-filter (is_below nat_cmp row.born) IsPlaced pairs placed)
    (All-cons IsPlaced (row.born, row) (filter (is_above nat_cmp row.born) pairs) refl (All-filter (is_above nat_cmp row.born) IsPlaced pairs placed))

placed_without : (pairs : Pairs) (place : ℕ) → All IsPlaced pairs → All IsPlaced (without_key nat_cmp pairs place)
placed_without pairs place placed = All-filter (λ pair. not (has_key nat_cmp place pair)) IsPlaced pairs placed

module _ (pairs : Pairs) (by_name : List (List ℕ × AliasRow)) (by_key : List (List ℕ × Pairs)) (kept : AreKept pairs by_name by_key) where
  -- the rows by key, without the row of a name
  abbrev LessOf : List (List ℕ × Pairs) → AliasRow → Type 0
  LessOf less old = (key : List ℕ) → group_of (slice_cmp nat_cmp) less key ≡ group_without (slice_cmp nat_cmp) by_key old.key old.born key

  keyed_without : (name : List ℕ) (old : AliasRow) (less : List (List ℕ × Pairs)) → row_named (rows_in pairs) name ≡ Some old → LessOf less old → IsIndexOf (slice_cmp nat_cmp) names_key (without_key nat_cmp pairs old.born) less
  keyed_without name old less is taken =
      index_without (slice_cmp nat_cmp) names_key pairs by_key old.born (ascends_in pairs kept.placed kept.aliases) kept.keyed less old.key old
      (old_there pairs name old kept.placed kept.aliases is) (of_its_key old) taken

  pub kept_without : (name : List ℕ) (old : AliasRow) (less_pairs : Pairs) (less_names : List (List ℕ × AliasRow)) (less : List (List ℕ × Pairs)) → row_named (rows_in pairs) name ≡ Some old
      → less_pairs ≡ without_key nat_cmp pairs old.born → less_names ≡ without_key (slice_cmp nat_cmp) by_name name → LessOf less old → AreKept less_pairs less_names less
  kept_without name old less_pairs less_names less is pairs_is names_is taken =
      let rows_are : rows_in less_pairs ≡ without (rows_in pairs) name = ap rows_in pairs_is ∙ rows_without pairs name old kept.placed kept.aliases is in
      record {
        placed = subst (All IsPlaced) (sym pairs_is) (placed_without pairs old.born kept.placed);
        aliases = subst AreAliases (sym rows_are) (without_keeps (rows_in pairs) name kept.aliases);
        named = λ other. ap (λ l. value_at (slice_cmp nat_cmp) l other) names_is ∙ names_without by_name (rows_in pairs) kept.named name other ∙ ap (λ l. row_named l other) (sym rows_are);
        keyed = subst (λ l. IsIndexOf (slice_cmp nat_cmp) names_key l less) (sym pairs_is) (keyed_without name old less is taken);
      }

  pub rows_less : (name : List ℕ) (old : AliasRow) (less_pairs : Pairs) → row_named (rows_in pairs) name ≡ Some old → less_pairs ≡ without_key nat_cmp pairs old.born → rows_in less_pairs ≡ without (rows_in pairs) name
  rows_less name old less_pairs is pairs_is = ap rows_in pairs_is ∙ rows_without pairs name old kept.placed kept.aliases is

  -- ---- a row is put

  -- the rows by key are less the row of the name, where there is one
  abbrev pub AreLess : List (List ℕ × Pairs) → Option AliasRow → Type 0
  AreLess less None = less ≡ by_key
  AreLess less (Some old) = LessOf less old

  before_places : (place : ℕ) → AreBefore (rows_in pairs) place → AllByRecursion (λ (pair : ℕ × AliasRow). pair.0 < place) pairs
  before_places place before = both_hold (λ pair less at. subst (λ n. n < place) (sym at) less) pairs (every_of_rows (λ (row : AliasRow). row.born < place) pairs (recursion_from_All (λ (row : AliasRow). row.born < place) (rows_in pairs) before)) (every_placed pairs kept.placed)

  module _ (row : AliasRow) (may : MayPut (rows_in pairs) row) where
    abbrev Old : Option AliasRow → Type 0
    Old old = row_named (rows_in pairs) row.name ≡ old

    may_be : (old : Option AliasRow) → Old old → MatchOption old (AreBefore (rows_in pairs) row.born) (λ old. (old.born ≡ row.born) × (old.made ≡ row.made))
    may_be old is = subst (λ o. MatchOption o (AreBefore (rows_in pairs) row.born) (λ old. (old.born ≡ row.born) × (old.made ≡ row.made))) is may

    rows_put : (old : Option AliasRow) → Old old → rows_in (with_pair nat_cmp pairs row.born row) ≡ with_row (rows_in pairs) row
    rows_put None is =
        ap rows_in (with_row_behind pairs row.born row (before_places row.born (may_be None is)))
        ∙ map-append (λ (pair : ℕ × AliasRow). pair.1) pairs ((row.born, row) ∷ [])
        ∙ behind_all (rows_in pairs) row is
    rows_put (Some old) is = put_over row.born row pairs old (rises_in pairs kept.placed kept.aliases) (every_placed pairs kept.placed) is (may_be (Some old) is).0

    keyed_with : (old : Option AliasRow) → Old old → (less changed : List (List ℕ × Pairs)) → AreLess less old → ((key : List ℕ) → group_of (slice_cmp nat_cmp) changed key ≡ group_with (slice_cmp nat_cmp) less row.key row.born row key) → IsIndexOf (slice_cmp nat_cmp) names_key (with_pair nat_cmp pairs row.born row) changed
    keyed_with None is less changed same put =
        index_with (slice_cmp nat_cmp) names_key pairs less row.born (ascends_in pairs kept.placed kept.aliases) (subst (IsIndexOf (slice_cmp nat_cmp) names_key pairs) (sym same) kept.keyed) changed row.key row
        (of_its_key row) (none_behind pairs row.born (before_places row.born (may_be None is))) put
    keyed_with (Some old) is less changed taken put =
        let born : old.born ≡ row.born = (may_be (Some old) is).0 in
        let gone : Pairs = without_key nat_cmp pairs row.born in
        let rows_are : rows_in gone ≡ without (rows_in pairs) row.name = subst (λ n. rows_in (without_key nat_cmp pairs n) ≡ without (rows_in pairs) row.name) born (rows_without pairs row.name old kept.placed kept.aliases is) in
        let keyed : IsIndexOf (slice_cmp nat_cmp) names_key gone less = subst (λ n. IsIndexOf (slice_cmp nat_cmp) names_key (without_key nat_cmp pairs n) less) born (keyed_without row.name old less is taken) in
        let aliases : AreAliases (rows_in gone) = subst AreAliases (sym rows_are) (without_keeps (rows_in pairs) row.name kept.aliases) in
        subst (λ l. IsIndexOf (slice_cmp nat_cmp) names_key l changed) (with_pair_over nat_cmp_total row.born pairs row)
        (index_with (slice_cmp nat_cmp) names_key gone less row.born (ascends_in gone (placed_without pairs row.born kept.placed) aliases) keyed changed row.key row
        (of_its_key row) (value_at-without_key nat_cmp_total pairs row.born row.born (tied_itself nat_cmp_total row.born)) put)

    module _ (old : Option AliasRow) (is : Old old) (new_pairs : Pairs) (pairs_is : new_pairs ≡ with_pair nat_cmp pairs row.born row) where
      pub rows_with : rows_in new_pairs ≡ with_row (rows_in pairs) row
      rows_with = ap rows_in pairs_is ∙ rows_put old is

      pub kept_with : (new_names : List (List ℕ × AliasRow)) → new_names ≡ with_pair (slice_cmp nat_cmp) by_name row.name row → (less changed : List (List ℕ × Pairs)) → AreLess less old
          → ((key : List ℕ) → group_of (slice_cmp nat_cmp) changed key ≡ group_with (slice_cmp nat_cmp) less row.key row.born row key) → AreKept new_pairs new_names changed
      kept_with new_names names_is less changed taken put = record {
        placed = subst (All IsPlaced) (sym pairs_is) (placed_with pairs row kept.placed);
        aliases = subst AreAliases (sym rows_with) (with_row_keeps (rows_in pairs) row kept.aliases may);
        named = λ name. ap (λ l. value_at (slice_cmp nat_cmp) l name) names_is ∙ names_with by_name (rows_in pairs) kept.named row name ∙ ap (λ l. row_named l name) (sym rows_with);
        keyed = subst (λ l. IsIndexOf (slice_cmp nat_cmp) names_key l changed) (sym pairs_is) (keyed_with old is less changed taken put);
      }
