-- Rows of keys by the places at which they were made.
use Rattle.std.proofs.Common.{◌≡◌, ◌≢◌, ℕ, suc, ◌+◌, ◌<◌, Bool, true, false, not, cond, List, [], ◌∷◌, ◌++◌, length, get_or, map, filter, find, Option, Some, None, refl, sym, ap, ◌∙◌, subst, arith}
use Rattle.std.specs.Prelude.{All, AllPairs, slice_get}
use Rattle.std.specs.List.{AllByRecursion}
use Rattle.std.specs.Option.{option_map}
use Rattle.std.specs.Str.{bytes_eq}
use Rattle.std.specs.Ordering.{nat_cmp, is_lt, is_gt, is_eq}
use Rattle.std.specs.declared.cmp.Ordering.{Ordering}
use Rattle.std.specs.declared.cmp.Ordering.TheVariants.{Less, Equal, Greater}
use Rattle.std.proofs.lemmas.List.{map-append}
use Rattle.std.proofs.lemmas.Slice.Eq.{bytes_eq-Decides}
use Rattle.std.proofs.lemmas.List.Elements.{recursion_from_All, All-from_recursion}
use Rattle.kms_names.specs.Place.{is_behind}
use Rattle.kms_names.proofs.Behind.{first_in_filter}
use Rattle.persist_map.specs.Groups.{pairs_behind}
use Rattle.persist_map.specs.Pairs.{is_below, is_above, has_key, value_at, with_pair, without_key}
use Rattle.key_states.specs.declared.rows.KeyRow.{KeyRow}
use Rattle.account_rows.specs.Changes.{changed}
use Rattle.account_rows.specs.History.{key_with, key_behind, place_in, AreRows}
use Rattle.account_rows.specs.Keys.{rows_in, row_at, placed, unplaced, AreInOrder}
use Rattle.account_rows.proofs.Places.{equal_places, lower_place, below_is_less, above_is_greater, itself}

-- ---- pairs of a place and the row that was made there

abbrev pub AreKeyed : List (ℕ × KeyRow) → Type 0
AreKeyed pairs = All (λ (pair : ℕ × KeyRow). pair.0 ≡ pair.1.born) pairs

module _ (test : ℕ → Bool) where
  rows_filter : (pairs : List (ℕ × KeyRow)) → AllByRecursion (λ (pair : ℕ × KeyRow). pair.0 ≡ pair.1.born) pairs
      → rows_in (filter (λ (pair : ℕ × KeyRow). test pair.0) pairs) ≡ filter (λ (row : KeyRow). test row.born) (rows_in pairs)
  rows_filter [] keyed = refl
  rows_filter (pair ∷ pairs) keyed = by_test (test pair.0) (test pair.1.born) (ap test keyed.0) (rows_filter pairs keyed.1)
    where
      by_test : (b c : Bool) → b ≡ c → rows_in (filter (λ (p : ℕ × KeyRow). test p.0) pairs) ≡ filter (λ (row : KeyRow). test row.born) (rows_in pairs)
          → rows_in (cond b (pair ∷ filter (λ (p : ℕ × KeyRow). test p.0) pairs) (filter (λ (p : ℕ × KeyRow). test p.0) pairs))
          ≡ cond c (pair.1 ∷ filter (λ (row : KeyRow). test row.born) (rows_in pairs)) (filter (λ (row : KeyRow). test row.born) (rows_in pairs))
      by_test true true e later = ap (λ rows. pair.1 ∷ rows) later
      by_test false false e later = later
      by_test true false e later = absurd (cc)
      by_test false true e later = absurd (cc)

  rows_find : (pairs : List (ℕ × KeyRow)) → AllByRecursion (λ (pair : ℕ × KeyRow). pair.0 ≡ pair.1.born) pairs
      → option_map (λ (pair : ℕ × KeyRow). pair.1) (find (λ (pair : ℕ × KeyRow). test pair.0) pairs) ≡ find (λ (row : KeyRow). test row.born) (rows_in pairs)
  rows_find [] keyed = refl
  rows_find (pair ∷ pairs) keyed = by_test (test pair.0) (test pair.1.born) (ap test keyed.0) (rows_find pairs keyed.1)
    where
      by_test : (b c : Bool) → b ≡ c → option_map (λ (p : ℕ × KeyRow). p.1) (find (λ (p : ℕ × KeyRow). test p.0) pairs) ≡ find (λ (row : KeyRow). test row.born) (rows_in pairs)
          → option_map (λ (p : ℕ × KeyRow). p.1) (cond b (Some pair) (find (λ (p : ℕ × KeyRow). test p.0) pairs))
          ≡ cond c (Some pair.1) (find (λ (row : KeyRow). test row.born) (rows_in pairs))
      by_test true true e later = refl
      by_test false false e later = later
      by_test true false e later = absurd (cc)
      by_test false true e later = absurd (cc)

module _ (pairs : List (ℕ × KeyRow)) (keyed : AreKeyed pairs) where
  each : AllByRecursion (λ (pair : ℕ × KeyRow). pair.0 ≡ pair.1.born) pairs
  each = recursion_from_All (λ (pair : ℕ × KeyRow). pair.0 ≡ pair.1.born) pairs keyed

  pub row_at_place : (place : ℕ) → value_at nat_cmp pairs place ≡ row_at (rows_in pairs) place
  row_at_place place = rows_find (λ at. is_eq (nat_cmp at place)) pairs each

  pub placed_pair : (row : KeyRow) → rows_in (with_pair nat_cmp pairs row.born row) ≡ placed (rows_in pairs) row
  placed_pair row =
      map-append (λ (pair : ℕ × KeyRow). pair.1) (filter (is_below nat_cmp row.born) pairs) ((row.born, row) ∷ filter (is_above nat_cmp row.born) pairs)
      ∙ ap (λ rows. rows ++ row ∷ rows_in (filter (is_above nat_cmp row.born) pairs)) (rows_filter (λ at. is_lt (nat_cmp at row.born)) pairs each)
      ∙ ap (λ rows. filter (λ (r : KeyRow). is_lt (nat_cmp r.born row.born)) (rows_in pairs) ++ row ∷ rows) (rows_filter (λ at. is_gt (nat_cmp at row.born)) pairs each)

  pub unplaced_pair : (place : ℕ) → rows_in (without_key nat_cmp pairs place) ≡ unplaced (rows_in pairs) place
  unplaced_pair place = rows_filter (λ at. not (is_eq (nat_cmp at place))) pairs each

  -- the first row behind a place
  pub behind_first : (after : Option ℕ) (behind : List (ℕ × KeyRow)) → pairs_behind pairs after ≡ behind → key_behind (rows_in pairs) after ≡ option_map (λ (pair : ℕ × KeyRow). pair.1) (slice_get behind 0)
  behind_first after behind is =
      sym (rows_find (is_behind after) pairs each)
      ∙ ap (option_map (λ (pair : ℕ × KeyRow). pair.1)) (sym (first_in_filter (λ (pair : ℕ × KeyRow). is_behind after pair.0) pairs) ∙ ap (λ l. slice_get l 0) is)

  -- pairs stay keyed
  every_filter : (test : ℕ × KeyRow → Bool) (l : List (ℕ × KeyRow)) → AllByRecursion (λ (pair : ℕ × KeyRow). pair.0 ≡ pair.1.born) l → AllByRecursion (λ (pair : ℕ × KeyRow). pair.0 ≡ pair.1.born) (filter test l)
  every_filter test [] keys = tt
  every_filter test (pair ∷ l) keys = by_test (test pair) (every_filter test l keys.1)
    where
      by_test : (b : Bool) → AllByRecursion (λ (p : ℕ × KeyRow). p.0 ≡ p.1.born) (filter test l) → AllByRecursion (λ (p : ℕ × KeyRow). p.0 ≡ p.1.born) (cond b (pair ∷ filter test l) (filter test l))
      by_test true later = (keys.0, later)
      by_test false later = later

  every_append : (front back : List (ℕ × KeyRow)) → AllByRecursion (λ (pair : ℕ × KeyRow). pair.0 ≡ pair.1.born) front → AllByRecursion (λ (pair : ℕ × KeyRow). pair.0 ≡ pair.1.born) back → AllByRecursion (λ (pair : ℕ × KeyRow). pair.0 ≡ pair.1.born) (front ++ back)
  every_append [] back h k = k
  every_append (pair ∷ front) back h k = (h.0, every_append front back h.1 k)

  pub keyed_with : (row : KeyRow) → AreKeyed (with_pair nat_cmp pairs row.born row)
  keyed_with row =
      All-from_recursion (λ (pair : ℕ × KeyRow). pair.0 ≡ pair.1.born) (with_pair nat_cmp pairs row.born row)
      (every_append (filter (is_below nat_cmp row.born) pairs) ((row.born, row) ∷ filter (is_above nat_cmp row.born) pairs) (every_filter (is_below nat_cmp row.born) pairs each) (refl, every_filter (is_above nat_cmp row.born) pairs each))

  pub keyed_without : (place : ℕ) → AreKeyed (without_key nat_cmp pairs place)
  keyed_without place = All-from_recursion (λ (pair : ℕ × KeyRow). pair.0 ≡ pair.1.born) (without_key nat_cmp pairs place) (every_filter (λ (pair : ℕ × KeyRow). not (has_key nat_cmp place pair)) pairs each)

-- ---- rows in order of making

abbrev pub Rises : List KeyRow → Type 0
Rises [] = Unit {0}
Rises (row ∷ rows) = AllByRecursion (λ (later : KeyRow). row.born < later.born) rows × Rises rows

pub rising : (rows : List KeyRow) → AllPairs (λ (p q : KeyRow). p.born < q.born) rows → Rises rows
rising [] up = tt
rising (row ∷ rows) up = (
  recursion_from_All (λ (later : KeyRow). row.born < later.born) rows (λ k d lt. up 0 (suc k) d (omega arith) (omega arith)),
  rising rows (λ i j d before within. up (suc i) (suc j) d (omega arith) (omega arith)),
)

abbrev pub AreNamed : List KeyRow → Type 0
AreNamed rows = AllByRecursion (λ (row : KeyRow). place_in row.key ≡ row.born) rows

pub in_order : (n : ℕ) (rows : List KeyRow) → AreRows n rows → AreInOrder rows
in_order n rows are = record { rise = are.rise; named = λ k d lt. (are.each k d lt).named }

every_weaker : (P Q : KeyRow → Type 0) → ((row : KeyRow) → P row → Q row) → (rows : List KeyRow) → AllByRecursion P rows → AllByRecursion Q rows
every_weaker P Q f [] all = tt
every_weaker P Q f (row ∷ rows) all = (f row all.0, every_weaker P Q f rows all.1)

-- what is said of every row is said of the one that is found
pub found_every : (P : KeyRow → Type 0) (test : KeyRow → Bool) (rows : List KeyRow) (row : KeyRow) → find test rows ≡ Some row → AllByRecursion P rows → P row
found_every P test [] row found all = cc
found_every P test (first ∷ rows) row found all = by_test (test first) (found_every P test rows row) found
  where
    by_test : (b : Bool) → (find test rows ≡ Some row → AllByRecursion P rows → P row) → cond b (Some first) (find test rows) ≡ Some row → P row
    by_test true later e = let same : first ≡ row = cc in subst P same all.0
    by_test false later e = later e all.1

module _ (test : KeyRow → Bool) where
  pub filter_all : (rows : List KeyRow) → AllByRecursion (λ row. test row ≡ true) rows → filter test rows ≡ rows
  filter_all [] all = refl
  filter_all (row ∷ rows) all = ap (λ b. cond b (row ∷ filter test rows) (filter test rows)) all.0 ∙ ap (λ l. row ∷ l) (filter_all rows all.1)

  pub filter_none : (rows : List KeyRow) → AllByRecursion (λ row. test row ≡ false) rows → filter test rows ≡ []
  filter_none [] all = refl
  filter_none (row ∷ rows) all = ap (λ b. cond b (row ∷ filter test rows) (filter test rows)) all.0 ∙ filter_none rows all.1

-- a row between those before it and those behind it
pub placed_between : (front back : List KeyRow) (new : KeyRow) → AllByRecursion (λ (row : KeyRow). row.born < new.born) front → AllByRecursion (λ (row : KeyRow). new.born < row.born) back
    → placed (front ++ back) new ≡ front ++ new ∷ back
placed_between [] back new before behind =
    ap (λ l. l ++ new ∷ filter (λ (row : KeyRow). is_gt (nat_cmp row.born new.born)) back)
    (filter_none (λ (row : KeyRow). is_lt (nat_cmp row.born new.born)) back
    (every_weaker (λ (row : KeyRow). new.born < row.born) (λ row. is_lt (nat_cmp row.born new.born) ≡ false) (λ row lt. ap is_lt (above_is_greater row.born new.born lt)) back behind))
    ∙ ap (λ l. new ∷ l)
    (filter_all (λ (row : KeyRow). is_gt (nat_cmp row.born new.born)) back
    (every_weaker (λ (row : KeyRow). new.born < row.born) (λ row. is_gt (nat_cmp row.born new.born) ≡ true) (λ row lt. ap is_gt (above_is_greater row.born new.born lt)) back behind))
placed_between (row ∷ front) back new before behind =
    ap (λ o. cond (is_lt o) (row ∷ filter (λ (r : KeyRow). is_lt (nat_cmp r.born new.born)) (front ++ back)) (filter (λ (r : KeyRow). is_lt (nat_cmp r.born new.born)) (front ++ back))
    ++ new ∷ cond (is_gt o) (row ∷ filter (λ (r : KeyRow). is_gt (nat_cmp r.born new.born)) (front ++ back)) (filter (λ (r : KeyRow). is_gt (nat_cmp r.born new.born)) (front ++ back)))
    (below_is_less row.born new.born before.0)
    ∙ ap (λ l. row ∷ l) (placed_between front back new before.1 behind)

-- in place of another that was made where it was
pub placed_over : (front back : List KeyRow) (old new : KeyRow) → old.born ≡ new.born → AllByRecursion (λ (row : KeyRow). row.born < new.born) front → AllByRecursion (λ (row : KeyRow). new.born < row.born) back
    → placed (front ++ old ∷ back) new ≡ front ++ new ∷ back
placed_over [] back old new same before behind =
    ap (λ o. cond (is_lt o) (old ∷ filter (λ (r : KeyRow). is_lt (nat_cmp r.born new.born)) back) (filter (λ (r : KeyRow). is_lt (nat_cmp r.born new.born)) back)
    ++ new ∷ cond (is_gt o) (old ∷ filter (λ (r : KeyRow). is_gt (nat_cmp r.born new.born)) back) (filter (λ (r : KeyRow). is_gt (nat_cmp r.born new.born)) back))
    (itself old.born new.born same)
    ∙ placed_between [] back new tt behind
placed_over (row ∷ front) back old new same before behind =
    ap (λ o. cond (is_lt o) (row ∷ filter (λ (r : KeyRow). is_lt (nat_cmp r.born new.born)) (front ++ old ∷ back)) (filter (λ (r : KeyRow). is_lt (nat_cmp r.born new.born)) (front ++ old ∷ back))
    ++ new ∷ cond (is_gt o) (row ∷ filter (λ (r : KeyRow). is_gt (nat_cmp r.born new.born)) (front ++ old ∷ back)) (filter (λ (r : KeyRow). is_gt (nat_cmp r.born new.born)) (front ++ old ∷ back)))
    (below_is_less row.born new.born before.0)
    ∙ ap (λ l. row ∷ l) (placed_over front back old new same before.1 behind)

module _ (id : List ℕ) where
  -- no row that was made behind the place of an id has the id
  none_behind : (rows : List KeyRow) → AreNamed rows → AllByRecursion (λ (row : KeyRow). place_in id < row.born) rows → key_with rows id ≡ None
  none_behind [] named behind = refl
  none_behind (row ∷ rows) named behind = by_test (bytes_eq row.key id) (bytes_eq-Decides row.key id).0 (none_behind rows named.1 behind.1)
    where
      by_test : (b : Bool) → (b ≡ true → row.key ≡ id) → key_with rows id ≡ None → cond b (Some row) (key_with rows id) ≡ None
      by_test true same later = absurd (omega (arith, behind.0, ap place_in (same refl), named.0))
      by_test false same later = later

  abbrev pub looked : Option KeyRow → Option KeyRow
  looked None = None
  looked (Some row) = cond (bytes_eq row.key id) (Some row) None

  -- the row of an id is the one of its place, where that has the id
  pub key_at : (rows : List KeyRow) → Rises rows → AreNamed rows → key_with rows id ≡ looked (row_at rows (place_in id))
  key_at [] up named = refl
  key_at (row ∷ rows) up named = by_place (key_at rows up.1 named.1) (nat_cmp row.born (place_in id)) refl
    where
      at : row.born ≡ place_in id → cond (bytes_eq row.key id) (Some row) (key_with rows id) ≡ looked (Some row)
      at same =
          ap (λ o. cond (bytes_eq row.key id) (Some row) o)
          (none_behind rows named.1 (every_weaker (λ (later : KeyRow). row.born < later.born) (λ (later : KeyRow). place_in id < later.born) (λ later lt. omega (arith, lt, same)) rows up.0))

      elsewhere : key_with rows id ≡ looked (row_at rows (place_in id)) → row.born ≢ place_in id → (b : Bool) → (b ≡ true → row.key ≡ id) → cond b (Some row) (key_with rows id) ≡ looked (row_at rows (place_in id))
      elsewhere later other true same = absurd (other (sym named.0 ∙ ap place_in (same refl)))
      elsewhere later other false same = later

      by_place : key_with rows id ≡ looked (row_at rows (place_in id)) → (o : Ordering) → nat_cmp row.born (place_in id) ≡ o → cond (bytes_eq row.key id) (Some row) (key_with rows id) ≡ looked (cond (is_eq o) (Some row) (row_at rows (place_in id)))
      by_place later Less e = elsewhere later (λ same. absurd (less_equal (sym e ∙ itself row.born (place_in id) same))) (bytes_eq row.key id) (bytes_eq-Decides row.key id).0
        where
          less_equal : Less ≡ Equal → ⊥
          less_equal e = cc
      by_place later Equal e = at (equal_places row.born (place_in id) e)
      by_place later Greater e = elsewhere later (λ same. absurd (greater_equal (sym e ∙ itself row.born (place_in id) same))) (bytes_eq row.key id) (bytes_eq-Decides row.key id).0
        where
          greater_equal : Greater ≡ Equal → ⊥
          greater_equal e = cc

  -- where no row has the id, none is changed
  pub none_changed : (change : KeyRow → KeyRow) (rows : List KeyRow) → key_with rows id ≡ None → changed id change rows ≡ rows
  none_changed change [] none = refl
  none_changed change (row ∷ rows) none = by_test (bytes_eq row.key id) (none_changed change rows) none
    where
      by_test : (b : Bool) → (key_with rows id ≡ None → changed id change rows ≡ rows) → cond b (Some row) (key_with rows id) ≡ None → cond b (change row) row ∷ changed id change rows ≡ row ∷ rows
      by_test true later e = absurd (cc)
      by_test false later e = ap (λ l. row ∷ l) (later e)

  -- the row of an id is changed at its place
  pub changed_at : (change : KeyRow → KeyRow) (rows : List KeyRow) → Rises rows → AreNamed rows → (row : KeyRow) → key_with rows id ≡ Some row → (change row).born ≡ row.born
      → placed rows (change row) ≡ changed id change rows
  changed_at change [] up named row found born = cc
  changed_at change (first ∷ rows) up named row found born = by_test (bytes_eq first.key id) (bytes_eq-Decides first.key id).0 found (changed_at change rows up.1 named.1 row)
    where
      by_test : (b : Bool) → (b ≡ true → first.key ≡ id) → cond b (Some first) (key_with rows id) ≡ Some row
          → (key_with rows id ≡ Some row → (change row).born ≡ row.born → placed rows (change row) ≡ changed id change rows)
          → placed (first ∷ rows) (change row) ≡ cond b (change first) first ∷ changed id change rows
      by_test true same e later =
          let is : first ≡ row = cc in
          let at : place_in id ≡ first.born = ap place_in (sym (same refl)) ∙ named.0 in
          placed_over [] rows first (change row) (ap (λ (r : KeyRow). r.born) is ∙ sym born) tt
          (every_weaker (λ (r : KeyRow). first.born < r.born) (λ (r : KeyRow). (change row).born < r.born) (λ r lt. omega (arith, lt, ap (λ (q : KeyRow). q.born) is, born)) rows up.0)
          ∙ ap (λ (r : KeyRow). change r ∷ rows) (sym is)
          ∙ ap (λ l. change first ∷ l)
          (sym (none_changed change rows
          (none_behind rows named.1 (every_weaker (λ (r : KeyRow). first.born < r.born) (λ (r : KeyRow). place_in id < r.born) (λ r lt. omega (arith, lt, at)) rows up.0))))
      by_test false same e later =
          let before : first.born < row.born = found_every (λ (r : KeyRow). first.born < r.born) (λ (r : KeyRow). bytes_eq r.key id) rows row e up.0 in
          ap (λ o. cond (is_lt o) (first ∷ filter (λ (r : KeyRow). is_lt (nat_cmp r.born (change row).born)) rows) (filter (λ (r : KeyRow). is_lt (nat_cmp r.born (change row).born)) rows)
          ++ change row ∷ cond (is_gt o) (first ∷ filter (λ (r : KeyRow). is_gt (nat_cmp r.born (change row).born)) rows) (filter (λ (r : KeyRow). is_gt (nat_cmp r.born (change row).born)) rows))
          (below_is_less first.born (change row).born (omega (arith, before, born)))
          ∙ ap (λ l. first ∷ l) (later e born)

-- a row behind all
pub placed_behind : (rows : List KeyRow) (new : KeyRow) → All (λ (row : KeyRow). row.born < new.born) rows → placed rows new ≡ rows ++ new ∷ []
placed_behind rows new before =
    ap (λ l. placed l new) (sym (no_more rows))
    ∙ placed_between rows [] new (recursion_from_All (λ (row : KeyRow). row.born < new.born) rows before) tt
  where
    no_more : (l : List KeyRow) → l ++ [] ≡ l
    no_more [] = refl
    no_more (x ∷ xs) = ap (λ l. x ∷ l) (no_more xs)
