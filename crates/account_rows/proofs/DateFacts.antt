-- The dates of housekeeping.
use Rattle.std.proofs.Common.{◌≡◌, ◌≢◌, ℕ, suc, ◌+◌, ◌<◌, ◌≤◌, Bool, true, false, not, ◌||◌, ◌&&◌, cond, List, [], ◌∷◌, ◌++◌, length, map, filter, find, Option, Some, None, refl, sym, ap, ◌∙◌, subst, arith, if◌then◌else◌}
use Rattle.std.specs.Prelude.{◌==◌, nat_le, All}
use Rattle.std.specs.Cmp.{IsTotalOrder}
use Rattle.std.specs.List.{AllByRecursion, list_any}
use Rattle.std.specs.Option.{option_map}
use Rattle.std.specs.Ordering.{nat_cmp, is_eq, ordering_then}
use Rattle.std.specs.declared.cmp.Ordering.{Ordering}
use Rattle.std.specs.declared.cmp.Ordering.TheVariants.{Less, Equal, Greater}
use Rattle.std.proofs.lemmas.Bool.Decides.{nat_tests}
use Rattle.std.proofs.lemmas.List.Elements.{recursion_from_All, All-from_recursion}
use Rattle.std.proofs.lemmas.Cmp.{nat_cmp_total, on_total, then_total}
use Rattle.persist_map.specs.Pairs.{Ascends, has_key, value_at, with_pair, without_key}
use Rattle.persist_map.proofs.Laws.{value_at-with_pair, value_at-with_pair-other, value_at-without_key, value_at-without_key-other}
use Rattle.persist_map.proofs.Orders.{Rises-from_ascends}
use Rattle.key_states.specs.declared.rows.KeyRow.{KeyRow}
use Rattle.key_states.specs.States.{is_due}
use Rattle.account_rows.specs.declared.keys.Due.{Due}
use Rattle.account_rows.specs.contracts.keys.DueOrd.TheImpl.{ghosts}
use Rattle.account_rows.specs.Changes.{is_gone, wants_house}
use Rattle.account_rows.specs.Keys.{rows_in, row_at, date_of, is_date, due_on, date_found, due_at, AreDatesOf, has_come, places_come, is_place, AreCovered, AreInOrder}
use Rattle.account_rows.proofs.KeyFacts.{AreKeyed, Rises, rising, row_at_place, found_every}
use Rattle.account_rows.proofs.KeptFacts.{comes, each_at}
use Rattle.account_rows.proofs.Places.{equal_places, lower_place, itself}

-- ---- one date

same_date : (date : ℕ) → (date == date) ≡ true
same_date date = by_test (date == date) refl
  where
    by_test : (b : Bool) → (date == date) ≡ b → b ≡ true
    by_test true e = refl
    by_test false e = grind (arith, nat_tests, e)

date_here : (date : ℕ) (of : Option ℕ) → of ≡ Some date → due_on date of ≡ Some tt
date_here date None e = absurd (cc)
date_here date (Some other) e = let same : other ≡ date = cc in ap (λ b. if b then Some tt else None) (ap (λ d. d == date) same ∙ same_date date)

-- a row with the date has come where the date has
come_by : (date time : ℕ) (of : Option ℕ) → due_on date of ≡ Some tt → nat_le date time ≡ true → has_come time of ≡ true
come_by date time None e le = absurd (cc)
come_by date time (Some other) e le = by_test (other == date) refl e
  where
    by_test : (b : Bool) → (other == date) ≡ b → (if b then Some (tt {0}) else None) ≡ Some (tt {0}) → nat_le other time ≡ true
    by_test true same f = let is : other ≡ date = grind (arith, nat_tests, same) in ap (λ d. nat_le d time) is ∙ le
    by_test false same f = absurd (cc)

-- ---- the dates of rows, in an order of theirs

-- an order of dates and places, dates first
pub record IsByDate (cmp : Due → Due → Ordering) : Type 0 where
  pub total : IsTotalOrder cmp
  pub same : (one other : Due) → cmp one other ≡ Equal → one ≡ other
  pub itself : (one : Due) → cmp one one ≡ Equal
  pub rises : (one other : Due) → cmp one other ≡ Less → one.date ≤ other.date

module _ (cmp : Due → Due → Ordering) (by_date : IsByDate cmp) (time : ℕ) where
  -- a date that has come and stands among the dates stands among those that have
  place_of_date : (dates : List (Due × Unit {0})) (due : Due) → nat_le due.date time ≡ true → value_at cmp dates due ≡ Some tt → is_place (places_come time dates) due.place ≡ true
  place_of_date [] due come there = absurd (cc)
  place_of_date (pair ∷ dates) due come there = by_order (place_of_date dates due come) (cmp pair.0 due) refl there
    where
      first : pair.0 ≡ due → (b : Bool) → nat_le pair.0.date time ≡ b → is_place (map (λ (p : Due × Unit {0}). p.0.place) (cond b (pair ∷ filter (λ (p : Due × Unit {0}). nat_le p.0.date time) dates) (filter (λ (p : Due × Unit {0}). nat_le p.0.date time) dates))) due.place ≡ true
      first same true e = ap (λ b. b || is_place (places_come time dates) due.place) (ap (λ (d : Due). d.place == due.place) same ∙ same_date due.place)
      first same false e = absurd (never (sym e ∙ ap (λ (d : Due). nat_le d.date time) same ∙ come))
        where
          never : false ≡ true → ⊥
          never e = cc

      later : (b : Bool) → is_place (places_come time dates) due.place ≡ true → is_place (map (λ (p : Due × Unit {0}). p.0.place) (cond b (pair ∷ filter (λ (p : Due × Unit {0}). nat_le p.0.date time) dates) (filter (λ (p : Due × Unit {0}). nat_le p.0.date time) dates))) due.place ≡ true
      later true e = by_test (pair.0.place == due.place) e
        where
          by_test : (b : Bool) → is_place (places_come time dates) due.place ≡ true → (b || is_place (places_come time dates) due.place) ≡ true
          by_test true e = refl
          by_test false e = e
      later false e = e

      by_order : (value_at cmp dates due ≡ Some tt → is_place (places_come time dates) due.place ≡ true) → (o : Ordering) → cmp pair.0 due ≡ o
          → option_map (λ (p : Due × Unit {0}). p.1) (cond (is_eq o) (Some pair) (find (has_key cmp due) dates)) ≡ Some tt → is_place (places_come time (pair ∷ dates)) due.place ≡ true
      by_order rest Less e there = later (nat_le pair.0.date time) (rest there)
      by_order rest Equal e there = first (by_date.same pair.0 due e) (nat_le pair.0.date time) refl
      by_order rest Greater e there = later (nat_le pair.0.date time) (rest there)

  abbrev pub first_has_come : List (Due × Unit {0}) → Bool
  first_has_come [] = false
  first_has_come (pair ∷ dates) = nat_le pair.0.date time

  -- where the first hasn't come, none has
  none_come : (pair : Due × Unit {0}) (dates : List (Due × Unit {0})) → AllByRecursion (λ (later : Due × Unit {0}). cmp pair.0 later.0 ≡ Less) dates → nat_le pair.0.date time ≡ false
      → filter (λ (p : Due × Unit {0}). nat_le p.0.date time) dates ≡ []
  none_come pair [] up e = refl
  none_come pair (later ∷ dates) up e = by_test (nat_le later.0.date time) refl (none_come pair dates up.1 e)
    where
      by_test : (b : Bool) → nat_le later.0.date time ≡ b → filter (λ (p : Due × Unit {0}). nat_le p.0.date time) dates ≡ []
          → cond b (later ∷ filter (λ (p : Due × Unit {0}). nat_le p.0.date time) dates) (filter (λ (p : Due × Unit {0}). nat_le p.0.date time) dates) ≡ []
      by_test true f rest = absurd (not_both pair.0.date later.0.date (by_date.rises pair.0 later.0 up.0) e f)
        where
          not_both : (x y : ℕ) → x ≤ y → nat_le x time ≡ false → nat_le y time ≡ true → ⊥
          not_both x y le e f = grind (arith, nat_tests, e, f)
      by_test false f rest = rest

  first_of_none : (dates : List (Due × Unit {0})) → Ascends cmp dates → first_has_come dates ≡ false → (place : ℕ) → is_place (places_come time dates) place ≡ true → ⊥
  first_of_none [] up e place there = cc
  first_of_none (pair ∷ dates) up e place there = by_first (nat_le pair.0.date time) refl there
    where
      none : filter (λ (p : Due × Unit {0}). nat_le p.0.date time) dates ≡ []
      none = none_come pair dates (Rises-from_ascends cmp (pair ∷ dates) up).0 e

      by_first : (b : Bool) → nat_le pair.0.date time ≡ b → is_place (map (λ (p : Due × Unit {0}). p.0.place) (cond b (pair ∷ filter (λ (p : Due × Unit {0}). nat_le p.0.date time) dates) (filter (λ (p : Due × Unit {0}). nat_le p.0.date time) dates))) place ≡ true → ⊥
      by_first true f there = let never : false ≡ true = sym e ∙ f in cc
      by_first false f there = let empty : is_place [] place ≡ true = ap (λ l. is_place (map (λ (p : Due × Unit {0}). p.0.place) l) place) (sym none) ∙ there in cc

  -- a date that has come, and those behind it
  pub come_now : (pair : Due × Unit {0}) (rest : List (Due × Unit {0})) → nat_le pair.0.date time ≡ true → places_come time (pair ∷ rest) ≡ pair.0.place ∷ places_come time rest
  come_now pair rest e =
      ap (λ b. map (λ (p : Due × Unit {0}). p.0.place) (cond b (pair ∷ filter (λ (p : Due × Unit {0}). nat_le p.0.date time) rest) (filter (λ (p : Due × Unit {0}). nat_le p.0.date time) rest))) e

  -- a date that hasn't come, and those behind it
  pub come_later : (pair : Due × Unit {0}) (rest : List (Due × Unit {0})) → Ascends cmp (pair ∷ rest) → nat_le pair.0.date time ≡ false → places_come time (pair ∷ rest) ≡ []
  come_later pair rest up e =
      ap (λ b. map (λ (p : Due × Unit {0}). p.0.place) (cond b (pair ∷ filter (λ (p : Due × Unit {0}). nat_le p.0.date time) rest) (filter (λ (p : Due × Unit {0}). nat_le p.0.date time) rest))) e
      ∙ ap (map (λ (p : Due × Unit {0}). p.0.place)) (none_come pair rest (Rises-from_ascends cmp (pair ∷ rest) up).0 e)

  module _ (pairs : List (ℕ × KeyRow)) (dates : List (Due × Unit {0})) (keyed : AreKeyed pairs) (of : AreDatesOf cmp pairs dates) where
    -- what stands at the place of a row
    stands : (row : KeyRow) (date : ℕ) → row_at (rows_in pairs) row.born ≡ Some row → date_of row ≡ Some date → value_at cmp dates (record { date = date; place = row.born }) ≡ Some tt
    stands row date at is = of (record { date = date; place = row.born }) ∙ ap (λ o. due_on date (date_found o)) (row_at_place pairs keyed row.born ∙ at) ∙ date_here date (date_of row) is

    covered_by : (row : KeyRow) → row_at (rows_in pairs) row.born ≡ Some row → (date : Option ℕ) → date_of row ≡ date → has_come time date ≡ true → is_place (places_come time dates) row.born ≡ true
    covered_by row at None is come = absurd (cc)
    covered_by row at (Some date) is come = place_of_date dates (record { date = date; place = row.born }) come (stands row date at is)

    every_covered : (rows : List KeyRow) → AllByRecursion (λ (row : KeyRow). row_at (rows_in pairs) row.born ≡ Some row) rows
        → AllByRecursion (λ (row : KeyRow). has_come time (date_of row) ≡ true → is_place (places_come time dates) row.born ≡ true) rows
    every_covered [] at = tt
    every_covered (row ∷ rows) at = (λ come. covered_by row at.0 (date_of row) refl come, every_covered rows at.1)

    -- each row whose date has come was made at one of the places
    pub are_covered : AreInOrder (rows_in pairs) → AreCovered time (places_come time dates) (rows_in pairs)
    are_covered order =
        All-from_recursion (λ (row : KeyRow). has_come time (date_of row) ≡ true → is_place (places_come time dates) row.born ≡ true) (rows_in pairs)
        (every_covered (rows_in pairs) (each_at (rows_in pairs) (rising (rows_in pairs) order.rise)))

    none_wants : (rows : List KeyRow) → (first_has_come dates ≡ false) → Ascends cmp dates → AllByRecursion (λ (row : KeyRow). has_come time (date_of row) ≡ true → is_place (places_come time dates) row.born ≡ true) rows → wants_house time rows ≡ false
    none_wants [] none up covers = refl
    none_wants (row ∷ rows) none up covers = by_row (is_gone time row || is_due row time) (comes time row) (none_wants rows none up covers.1)
      where
        by_row : (b : Bool) → b ≡ has_come time (date_of row) → wants_house time rows ≡ false → (b || wants_house time rows) ≡ false
        by_row true e rest = absurd (first_of_none dates up none row.born (covers.0 (sym e)))
        by_row false e rest = rest

    wants_each : (rows all : List KeyRow) → (wants_house time rows ≡ true → wants_house time all ≡ true) → AllByRecursion (λ (row : KeyRow). has_come time (date_of row) ≡ true → wants_house time all ≡ true) rows
    wants_each [] all f = tt
    wants_each (row ∷ rows) all f = (
      λ come. f (ap (λ b. b || wants_house time rows) (comes time row ∙ come)),
      wants_each rows all (λ e. f (second (is_gone time row || is_due row time) e)),
    )
      where
        second : (b : Bool) → wants_house time rows ≡ true → (b || wants_house time rows) ≡ true
        second true e = refl
        second false e = e

    due_row : (date : ℕ) (found : Option KeyRow) → due_on date (date_found found) ≡ Some tt → (row : KeyRow) × (found ≡ Some row) × (due_on date (date_of row) ≡ Some tt)
    due_row date None e = absurd (cc)
    due_row date (Some row) e = (row, refl, e)

    first_wants : (pair : Due × Unit {0}) (rest : List (Due × Unit {0})) → dates ≡ pair ∷ rest → nat_le pair.0.date time ≡ true → wants_house time (rows_in pairs) ≡ true
    first_wants pair rest is come =
        let there : value_at cmp dates pair.0 ≡ Some tt =
        ap (λ l. value_at cmp l pair.0) is ∙ ap (λ o. option_map (λ (p : Due × Unit {0}). p.1) (cond (is_eq o) (Some pair) (find (has_key cmp pair.0) rest))) (by_date.itself pair.0) in
        let row = due_row pair.0.date (row_at (rows_in pairs) pair.0.place) (ap (λ o. due_on pair.0.date (date_found o)) (sym (row_at_place pairs keyed pair.0.place)) ∙ sym (of pair.0) ∙ there) in
        found_every (λ (r : KeyRow). has_come time (date_of r) ≡ true → wants_house time (rows_in pairs) ≡ true) (λ (r : KeyRow). is_eq (nat_cmp r.born pair.0.place)) (rows_in pairs) row.0 row.1
        (wants_each (rows_in pairs) (rows_in pairs) (λ e. e)) (come_by pair.0.date time (date_of row.0) row.2 come)

    -- housekeeping has something to do exactly where the first date has come
    pub first_tells : AreInOrder (rows_in pairs) → Ascends cmp dates → first_has_come dates ≡ wants_house time (rows_in pairs)
    first_tells order up = by_first dates refl (first_has_come dates) refl
      where
        by_first : (l : List (Due × Unit {0})) → dates ≡ l → (b : Bool) → first_has_come l ≡ b → b ≡ wants_house time (rows_in pairs)
        by_first [] is true e = absurd (cc)
        by_first (pair ∷ rest) is true e = sym (first_wants pair rest is e)
        by_first l is false e = sym (none_wants (rows_in pairs) (ap first_has_come is ∙ e) up (every_covered (rows_in pairs) (each_at (rows_in pairs) (rising (rows_in pairs) order.rise))))

pub rest_ascends : (cmp : Due → Due → Ordering) (pair : Due × Unit {0}) (rest : List (Due × Unit {0})) → Ascends cmp (pair ∷ rest) → Ascends cmp rest
rest_ascends cmp pair rest up i j d before within = up (suc i) (suc j) d (omega (arith, before)) (omega (arith, within))

-- ---- dates that change

module _ (cmp : Due → Due → Ordering) (by_date : IsByDate cmp) where
  -- a date at a place stands apart from all others
  apart : (one other : Due) → (one ≡ other → ⊥) → is_eq (cmp one other) ≡ false
  apart one other differ = by_order (cmp one other) refl
    where
      by_order : (o : Ordering) → cmp one other ≡ o → is_eq o ≡ false
      by_order Less e = refl
      by_order Equal e = absurd (differ (by_date.same one other e))
      by_order Greater e = refl

  module _ (place : ℕ) where
    abbrev pub here : ℕ → Due
    here date = record { date = date; place = place }

    at_place : (due : Due) → due.place ≡ place → due ≡ here due.date
    at_place due same = ap (λ p. record { date = due.date; place = p }) same

    same_due : (due : Due) (date : ℕ) → due.place ≡ place → date ≡ due.date → here date ≡ due
    same_due due date same is = ap here is ∙ sym (at_place due same)

    not_due : (due : Due) (date : ℕ) → (date == due.date) ≡ false → here date ≡ due → ⊥
    not_due due date e is = let dates : date ≡ due.date = ap (λ (d : Due). d.date) is in grind (arith, nat_tests, e, dates)

    not_place : (due : Due) (date : ℕ) → (due.place == place) ≡ false → here date ≡ due → ⊥
    not_place due date e is = let places : place ≡ due.place = ap (λ (d : Due). d.place) is in grind (arith, nat_tests, e, places)

    equal : (x y : ℕ) → (x == y) ≡ true → x ≡ y
    equal x y e = grind (arith, nat_tests, e)

    module _ (pairs : List (ℕ × KeyRow)) (dates : List (Due × Unit {0})) (of : AreDatesOf cmp pairs dates) where
      -- what stands there where the row has no date, or another
      pub none_there : date_found (value_at nat_cmp pairs place) ≡ None → (due : Due) → value_at cmp dates due ≡ (if due.place == place then None else due_at pairs due)
      none_there none due = by_place (due.place == place) refl
        where
          by_place : (b : Bool) → (due.place == place) ≡ b → value_at cmp dates due ≡ (if b then None else due_at pairs due)
          by_place true e = of due ∙ ap (λ p. due_on due.date (date_found (value_at nat_cmp pairs p))) (equal due.place place e) ∙ ap (due_on due.date) none
          by_place false e = of due

      -- the row's date less
      pub date_less : (date : ℕ) → date_found (value_at nat_cmp pairs place) ≡ Some date → (due : Due) → value_at cmp (without_key cmp dates (here date)) due ≡ (if due.place == place then None else due_at pairs due)
      date_less date found due = by_place (due.place == place) refl
        where
          by_date_there : due.place ≡ place → (b : Bool) → (date == due.date) ≡ b → value_at cmp (without_key cmp dates (here date)) due ≡ None
          by_date_there same true e = value_at-without_key by_date.total dates (here date) due (ap (cmp (here date)) (sym (same_due due date same (equal date due.date e))) ∙ by_date.itself (here date))
          by_date_there same false e =
              value_at-without_key-other by_date.total dates (here date) due (apart due (here date) (λ is. not_due due date e (sym is)))
              ∙ of due ∙ ap (λ p. due_on due.date (date_found (value_at nat_cmp pairs p))) same ∙ ap (due_on due.date) found ∙ ap (λ b. if b then Some tt else None) e

          by_place : (b : Bool) → (due.place == place) ≡ b → value_at cmp (without_key cmp dates (here date)) due ≡ (if b then None else due_at pairs due)
          by_place true e = by_date_there (equal due.place place e) (date == due.date) refl
          by_place false e = value_at-without_key-other by_date.total dates (here date) due (apart due (here date) (λ is. not_place due date e (sym is))) ∙ of due

    module _ (dates : List (Due × Unit {0})) (none : (date : ℕ) → value_at cmp dates (here date) ≡ None) where
      none_at : (due : Due) → due.place ≡ place → value_at cmp dates due ≡ None
      none_at due same = ap (value_at cmp dates) (at_place due same) ∙ none due.date

      pub no_date_more : (due : Due) → value_at cmp dates due ≡ (if due.place == place then due_on due.date None else value_at cmp dates due)
      no_date_more due = by_place (due.place == place) refl
        where
          by_place : (b : Bool) → (due.place == place) ≡ b → value_at cmp dates due ≡ (if b then None else value_at cmp dates due)
          by_place true e = none_at due (equal due.place place e)
          by_place false e = refl

      pub date_more : (date : ℕ) (due : Due) → value_at cmp (with_pair cmp dates (here date) tt) due ≡ (if due.place == place then due_on due.date (Some date) else value_at cmp dates due)
      date_more date due = by_place (due.place == place) refl
        where
          by_date_there : due.place ≡ place → (b : Bool) → (date == due.date) ≡ b → value_at cmp (with_pair cmp dates (here date) tt) due ≡ (if b then Some tt else None)
          by_date_there same true e = value_at-with_pair by_date.total dates (here date) tt due (ap (cmp (here date)) (sym (same_due due date same (equal date due.date e))) ∙ by_date.itself (here date))
          by_date_there same false e = value_at-with_pair-other by_date.total dates (here date) tt due (apart (here date) due (not_due due date e)) ∙ none_at due same

          by_place : (b : Bool) → (due.place == place) ≡ b → value_at cmp (with_pair cmp dates (here date) tt) due ≡ (if b then due_on due.date (Some date) else value_at cmp dates due)
          by_place true e = by_date_there (equal due.place place e) (date == due.date) refl
          by_place false e = value_at-with_pair-other by_date.total dates (here date) tt due (apart (here date) due (not_place due date e))

  -- ---- rows that change with their dates

  module _ (pairs : List (ℕ × KeyRow)) (left : List (Due × Unit {0})) (place : ℕ) (is : (due : Due) → value_at cmp left due ≡ (if due.place == place then None else due_at pairs due)) where
    same_place : (x y : ℕ) → (x == y) ≡ true → nat_cmp y x ≡ Equal
    same_place x y e = itself y x (grind (arith, nat_tests, e))

    other_place : (x y : ℕ) → (x == y) ≡ false → is_eq (nat_cmp y x) ≡ false
    other_place x y e = by_order (nat_cmp y x) refl
      where
        by_order : (o : Ordering) → nat_cmp y x ≡ o → is_eq o ≡ false
        by_order Less f = refl
        by_order Equal f = absurd (let places : y ≡ x = equal_places y x f in grind (arith, nat_tests, e, places))
        by_order Greater f = refl

    pub dates_with_row : (row : KeyRow) (all : List (Due × Unit {0})) → ((due : Due) → value_at cmp all due ≡ (if due.place == place then due_on due.date (date_of row) else value_at cmp left due))
        → AreDatesOf cmp (with_pair nat_cmp pairs place row) all
    dates_with_row row all more due = more due ∙ by_place (due.place == place) refl
      where
        by_place : (b : Bool) → (due.place == place) ≡ b → (if b then due_on due.date (date_of row) else value_at cmp left due) ≡ due_on due.date (date_found (value_at nat_cmp (with_pair nat_cmp pairs place row) due.place))
        by_place true e = sym (ap (λ o. due_on due.date (date_found o)) (value_at-with_pair nat_cmp_total pairs place row due.place (same_place due.place place e)))
        by_place false e =
            is due ∙ ap (λ b. if b then None else due_at pairs due) e
            ∙ sym (ap (λ o. due_on due.date (date_found o)) (value_at-with_pair-other nat_cmp_total pairs place row due.place (other_place due.place place e)))

    pub dates_without_row : AreDatesOf cmp (without_key nat_cmp pairs place) left
    dates_without_row due = is due ∙ by_place (due.place == place) refl
      where
        by_place : (b : Bool) → (due.place == place) ≡ b → (if b then None else due_at pairs due) ≡ due_on due.date (date_found (value_at nat_cmp (without_key nat_cmp pairs place) due.place))
        by_place true e = sym (ap (λ o. due_on due.date (date_found o)) (value_at-without_key nat_cmp_total pairs place due.place (same_place due.place place e)))
        by_place false e =
            sym (ap (λ o. due_on due.date (date_found o)) (value_at-without_key-other nat_cmp_total pairs place due.place (turned (nat_cmp due.place place) refl)))
          where
            turned : (o : Ordering) → nat_cmp due.place place ≡ o → is_eq o ≡ false
            turned Less f = refl
            turned Equal f = absurd (let places : due.place ≡ place = equal_places due.place place f in grind (arith, nat_tests, e, places))
            turned Greater f = refl

-- ---- the order of dates

abbrev pub due_cmp : Due → Due → Ordering
due_cmp = ghosts.cmp

pub by_dates : IsByDate due_cmp
by_dates = record {
  total = then_total (on_total (λ (due : Due). due.date) nat_cmp_total) (on_total (λ (due : Due). due.place) nat_cmp_total);
  same = λ one other e. both one other (nat_cmp one.date other.date) (nat_cmp one.place other.place) refl refl e;
  itself = λ one. ap (λ o. ordering_then o (nat_cmp one.place one.place)) (itself one.date one.date refl) ∙ itself one.place one.place refl;
  rises = λ one other e. dates_rise one other (nat_cmp one.date other.date) (nat_cmp one.place other.place) refl e;
}
  where
    both : (one other : Due) (o p : Ordering) → nat_cmp one.date other.date ≡ o → nat_cmp one.place other.place ≡ p → ordering_then o p ≡ Equal → one ≡ other
    both one other Less p e f is = absurd (cc)
    both one other Equal Less e f is = absurd (cc)
    both one other Equal Equal e f is = ap (λ d. record { date = d; place = one.place }) (equal_places one.date other.date e) ∙ ap (λ p. record { date = other.date; place = p }) (equal_places one.place other.place f)
    both one other Equal Greater e f is = absurd (cc)
    both one other Greater p e f is = absurd (cc)

    dates_rise : (one other : Due) (o p : Ordering) → nat_cmp one.date other.date ≡ o → ordering_then o p ≡ Less → one.date ≤ other.date
    dates_rise one other Less p e is = let before = lower_place one.date other.date e in omega (arith, before)
    dates_rise one other Equal p e is = let same = equal_places one.date other.date e in omega (arith, same)
    dates_rise one other Greater p e is = absurd (cc)
