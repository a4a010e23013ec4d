-- Housekeeping, place by place.
use Rattle.std.proofs.Common.{◌≡◌, ◌≢◌, ℕ, ◌+◌, ◌<◌, ◌≤◌, Bool, true, false, not, ◌||◌, cond, List, [], ◌∷◌, ◌++◌, length, map, filter, find, Option, Some, None, refl, sym, ap, ◌∙◌, subst, arith, if◌then◌else◌}
use Rattle.std.specs.Prelude.{◌==◌, nat_le, is_some, ◌&&◌, All}
use Rattle.std.specs.List.{AllByRecursion, flat_map, list_any}
use Rattle.std.specs.Str.{bytes_eq}
use Rattle.std.specs.Ordering.{nat_cmp, is_lt, is_gt, is_eq}
use Rattle.std.specs.declared.cmp.Ordering.{Ordering}
use Rattle.std.specs.declared.cmp.Ordering.TheVariants.{Less, Equal, Greater}
use Rattle.std.proofs.lemmas.Bool.Decides.{nat_tests}
use Rattle.std.proofs.lemmas.List.Elements.{recursion_from_All}
use Rattle.key_states.specs.declared.rows.KeyRow.{KeyRow}
use Rattle.key_states.specs.declared.states.Stored.{Stored}
use Rattle.key_states.specs.declared.states.Stored.TheVariants.{Enabled, Disabled, Pending}
use Rattle.key_states.specs.declared.states.State.TheVariants.{Gone, PendingDeletion}
use Rattle.key_states.specs.States.{is_due, is_enabled, state_of}
use Rattle.account_rows.specs.Changes.{is_state_gone, is_gone, rotated, rotated_if_due, house_kept, gone_keys, wants_house}
use Rattle.account_rows.specs.Keys.{row_at, placed, unplaced, date_by, date_of, has_come, is_place, AreCovered, kept, kept_at, kept_more, gone_at, gone_among, is_id}
use Rattle.account_rows.proofs.KeyFacts.{Rises, found_every, placed_between}
use Rattle.account_rows.proofs.Places.{equal_places, below_is_less, above_is_greater, itself}
use Rattle.account_rows.proofs.RowFacts.{due_follows}

-- ---- what housekeeping has to do for a row

date_comes : (time : ℕ) (stored : Stored) (period : Option ℕ) (next : ℕ) → (is_state_gone (state_of stored time) || (is_enabled stored && (is_some period && nat_le next time))) ≡ has_come time (date_by stored period next)
date_comes time Enabled None next = refl
date_comes time Enabled (Some days) next = refl
date_comes time Disabled period next = refl
date_comes time (Pending date days) period next = by_date (nat_le date time)
  where
    by_date : (b : Bool) → (is_state_gone (if b then Gone else PendingDeletion) || false) ≡ b
    by_date true = refl
    by_date false = refl

-- its date has come
pub comes : (time : ℕ) (row : KeyRow) → (is_gone time row || is_due row time) ≡ has_come time (date_of row)
comes time row = date_comes time row.stored row.period row.next

-- ---- lists of rows

every_both : (P : KeyRow → Type 0) (front back : List KeyRow) → AllByRecursion P front → AllByRecursion P back → AllByRecursion P (front ++ back)
every_both P [] back h k = k
every_both P (row ∷ rows) back h k = (h.0, every_both P rows back h.1 k)

every_weaker : (P Q : KeyRow → Type 0) → ((row : KeyRow) → P row → Q row) → (rows : List KeyRow) → AllByRecursion P rows → AllByRecursion Q rows
every_weaker P Q f [] all = tt
every_weaker P Q f (row ∷ rows) all = (f row all.0, every_weaker P Q f rows all.1)

-- each row is the one of its place
pub each_at : (rows : List KeyRow) → Rises rows → AllByRecursion (λ (row : KeyRow). row_at rows row.born ≡ Some row) rows
each_at [] up = tt
each_at (row ∷ rows) up = (
  ap (λ o. cond (is_eq o) (Some row) (row_at rows row.born)) (itself row.born row.born refl),
  both rows up.0 (each_at rows up.1),
)
  where
    both : (later : List KeyRow) → AllByRecursion (λ (r : KeyRow). row.born < r.born) later → AllByRecursion (λ (r : KeyRow). row_at rows r.born ≡ Some r) later → AllByRecursion (λ (r : KeyRow). row_at (row ∷ rows) r.born ≡ Some r) later
    both [] behind at = tt
    both (r ∷ rs) behind at = (ap (λ o. cond (is_eq o) (Some row) (row_at rows r.born)) (below_is_less row.born r.born behind.0) ∙ at.0, both rs behind.1 at.1)

-- what is found at a place was made there
pub made_there : (rows : List KeyRow) (place : ℕ) (row : KeyRow) → row_at rows place ≡ Some row → row.born ≡ place
made_there [] place row found = cc
made_there (first ∷ rows) place row found = by_place (made_there rows place row) (nat_cmp first.born place) refl found
  where
    by_place : (row_at rows place ≡ Some row → row.born ≡ place) → (o : Ordering) → nat_cmp first.born place ≡ o → cond (is_eq o) (Some first) (row_at rows place) ≡ Some row → row.born ≡ place
    by_place later Less e f = later f
    by_place later Equal e f = let is : first ≡ row = cc in ap (λ (r : KeyRow). r.born) (sym is) ∙ equal_places first.born place e
    by_place later Greater e f = later f

-- rows in front of those that are changed
unplaced_front : (front back : List KeyRow) (place : ℕ) → AllByRecursion (λ (row : KeyRow). row.born < place) front → unplaced (front ++ back) place ≡ front ++ unplaced back place
unplaced_front [] back place before = refl
unplaced_front (row ∷ front) back place before =
    ap (λ o. cond (not (is_eq o)) (row ∷ unplaced (front ++ back) place) (unplaced (front ++ back) place)) (below_is_less row.born place before.0)
    ∙ ap (λ l. row ∷ l) (unplaced_front front back place before.1)

unplaced_none : (rows : List KeyRow) (place : ℕ) → AllByRecursion (λ (row : KeyRow). place < row.born) rows → unplaced rows place ≡ rows
unplaced_none [] place behind = refl
unplaced_none (row ∷ rows) place behind =
    ap (λ o. cond (not (is_eq o)) (row ∷ unplaced rows place) (unplaced rows place)) (above_is_greater row.born place behind.0)
    ∙ ap (λ l. row ∷ l) (unplaced_none rows place behind.1)

unplaced_here : (front back : List KeyRow) (place : ℕ) → AllByRecursion (λ (row : KeyRow). row.born ≡ place) front → unplaced (front ++ back) place ≡ unplaced back place
unplaced_here [] back place here = refl
unplaced_here (row ∷ front) back place here =
    ap (λ o. cond (not (is_eq o)) (row ∷ unplaced (front ++ back) place) (unplaced (front ++ back) place)) (itself row.born place here.0)
    ∙ unplaced_here front back place here.1

placed_front : (front back : List KeyRow) (new : KeyRow) → AllByRecursion (λ (row : KeyRow). row.born < new.born) front → placed (front ++ back) new ≡ front ++ placed back new
placed_front [] back new before = refl
placed_front (row ∷ front) back new before =
    ap (λ o. cond (is_lt o) (row ∷ filter (λ (r : KeyRow). is_lt (nat_cmp r.born new.born)) (front ++ back)) (filter (λ (r : KeyRow). is_lt (nat_cmp r.born new.born)) (front ++ back))
    ++ new ∷ cond (is_gt o) (row ∷ filter (λ (r : KeyRow). is_gt (nat_cmp r.born new.born)) (front ++ back)) (filter (λ (r : KeyRow). is_gt (nat_cmp r.born new.born)) (front ++ back)))
    (below_is_less row.born new.born before.0)
    ∙ ap (λ l. row ∷ l) (placed_front front back new before.1)

placed_here : (front back : List KeyRow) (new : KeyRow) → AllByRecursion (λ (row : KeyRow). row.born ≡ new.born) front → AllByRecursion (λ (row : KeyRow). new.born < row.born) back → placed (front ++ back) new ≡ new ∷ back
placed_here [] back new here behind = placed_between [] back new tt behind
placed_here (row ∷ front) back new here behind =
    ap (λ o. cond (is_lt o) (row ∷ filter (λ (r : KeyRow). is_lt (nat_cmp r.born new.born)) (front ++ back)) (filter (λ (r : KeyRow). is_lt (nat_cmp r.born new.born)) (front ++ back))
    ++ new ∷ cond (is_gt o) (row ∷ filter (λ (r : KeyRow). is_gt (nat_cmp r.born new.born)) (front ++ back)) (filter (λ (r : KeyRow). is_gt (nat_cmp r.born new.born)) (front ++ back)))
    (itself row.born new.born here.0)
    ∙ placed_here front back new here.1 behind

-- ---- places

place_there : (places : List ℕ) (place : ℕ) → is_place (places ++ place ∷ []) place ≡ true
place_there [] place = by_test (place == place) refl
  where
    by_test : (b : Bool) → (place == place) ≡ b → (b || false) ≡ true
    by_test true e = refl
    by_test false e = grind (arith, nat_tests, e)
place_there (other ∷ places) place = by_test (other == place) (place_there places place)
  where
    by_test : (b : Bool) → is_place (places ++ place ∷ []) place ≡ true → (b || is_place (places ++ place ∷ []) place) ≡ true
    by_test true later = refl
    by_test false later = later

place_elsewhere : (places : List ℕ) (place other : ℕ) → other ≢ place → is_place (places ++ place ∷ []) other ≡ is_place places other
place_elsewhere [] place other apart = by_test (place == other) refl
  where
    by_test : (b : Bool) → (place == other) ≡ b → (b || false) ≡ false
    by_test true e = absurd (apart (grind (arith, nat_tests, e)))
    by_test false e = refl
place_elsewhere (first ∷ places) place other apart = ap (λ b. (first == other) || b) (place_elsewhere places place other apart)

-- ---- rows that were gone through

module _ (time : ℕ) (P : ℕ → Type 0) where
  kept_has : (row : KeyRow) (gone : Bool) → P row.born → AllByRecursion (λ (r : KeyRow). P r.born) (if gone then [] else rotated_if_due time row ∷ [])
  kept_has row true has = tt
  kept_has row false has = (subst P (sym (due_follows time row).born) has, tt)

  part_has : (row : KeyRow) (here : Bool) → P row.born → AllByRecursion (λ (r : KeyRow). P r.born) (if here then kept time row else row ∷ [])
  part_has row true has = kept_has row (is_gone time row) has
  part_has row false has = (has, tt)

  rows_have : (places : List ℕ) (rows : List KeyRow) → AllByRecursion (λ (r : KeyRow). P r.born) rows → AllByRecursion (λ (r : KeyRow). P r.born) (kept_at time places rows)
  rows_have places [] has = tt
  rows_have places (row ∷ rows) has =
      every_both (λ (r : KeyRow). P r.born) (if is_place places row.born then kept time row else row ∷ []) (kept_at time places rows) (part_has row (is_place places row.born) has.0) (rows_have places rows has.1)

module _ (time : ℕ) (places : List ℕ) (place : ℕ) where
  same_elsewhere : (rows : List KeyRow) → AllByRecursion (λ (row : KeyRow). place < row.born) rows → kept_at time (places ++ place ∷ []) rows ≡ kept_at time places rows
  same_elsewhere [] behind = refl
  same_elsewhere (row ∷ rows) behind =
      ap (λ b. (if b then kept time row else row ∷ []) ++ kept_at time (places ++ place ∷ []) rows) (place_elsewhere places place row.born (λ same. omega (arith, same, behind.0)))
      ∙ ap (λ l. (if is_place places row.born then kept time row else row ∷ []) ++ l) (same_elsewhere rows behind.1)

  -- the row of the place
  here : (row : KeyRow) (rows : List KeyRow) → Rises (row ∷ rows) → row.born ≡ place → (gone : Bool) → (front : List KeyRow) → AllByRecursion (λ (r : KeyRow). r.born ≡ place) front
      → (if gone then unplaced (front ++ kept_at time places rows) place else placed (front ++ kept_at time places rows) (rotated_if_due time row))
      ≡ (if gone then [] else rotated_if_due time row ∷ []) ++ kept_at time places rows
  here row rows up same true front made =
      unplaced_here front (kept_at time places rows) place made
      ∙ unplaced_none (kept_at time places rows) place
      (rows_have time (λ b. place < b) places rows (every_weaker (λ (r : KeyRow). row.born < r.born) (λ (r : KeyRow). place < r.born) (λ r lt. omega (arith, lt, same)) rows up.0))
  here row rows up same false front made =
      let born : (rotated_if_due time row).born ≡ place = (due_follows time row).born ∙ same in
      placed_here front (kept_at time places rows) (rotated_if_due time row) (every_weaker (λ (r : KeyRow). r.born ≡ place) (λ (r : KeyRow). r.born ≡ (rotated_if_due time row).born) (λ r e. e ∙ sym born) front made)
      (rows_have time (λ b. (rotated_if_due time row).born < b) places rows
      (every_weaker (λ (r : KeyRow). row.born < r.born) (λ (r : KeyRow). (rotated_if_due time row).born < r.born) (λ r lt. omega (arith, lt, same, born)) rows up.0))

  -- rows before that of the place
  before : (front back after : List KeyRow) (born : ℕ) → AllByRecursion (λ (r : KeyRow). r.born ≡ born) front → (found : Option KeyRow) → ((row : KeyRow) → found ≡ Some row → (row.born ≡ place) × (born < row.born))
      → kept_more time place found back ≡ after → kept_more time place found (front ++ back) ≡ front ++ after
  before front back after born made None there later = ap (λ l. front ++ l) later
  before front back after born made (Some row) there later = by_gone (is_gone time row) later
    where
      is : (row.born ≡ place) × (born < row.born)
      is = there row refl

      by_gone : (gone : Bool) → (if gone then unplaced back place else placed back (rotated_if_due time row)) ≡ after
          → (if gone then unplaced (front ++ back) place else placed (front ++ back) (rotated_if_due time row)) ≡ front ++ after
      by_gone true later =
          unplaced_front front back place (every_weaker (λ (r : KeyRow). r.born ≡ born) (λ (r : KeyRow). r.born < place) (λ r e. omega (arith, e, is.0, is.1)) front made) ∙ ap (λ l. front ++ l) later
      by_gone false later =
          let rotated_born : (rotated_if_due time row).born ≡ row.born = (due_follows time row).born in
          placed_front front back (rotated_if_due time row) (every_weaker (λ (r : KeyRow). r.born ≡ born) (λ (r : KeyRow). r.born < (rotated_if_due time row).born) (λ r e. omega (arith, e, is.1, rotated_born)) front made)
          ∙ ap (λ l. front ++ l) later

  -- one place more
  pub kept_one_more : (rows : List KeyRow) → Rises rows → kept_more time place (row_at rows place) (kept_at time places rows) ≡ kept_at time (places ++ place ∷ []) rows
  kept_one_more [] up = refl
  kept_one_more (row ∷ rows) up = by_place (kept_one_more rows up.1) (nat_cmp row.born place) refl
    where
      front : List KeyRow
      front = if is_place places row.born then kept time row else row ∷ []

      at : row.born ≡ place → kept_more time place (Some row) (front ++ kept_at time places rows) ≡ (if is_place (places ++ place ∷ []) row.born then kept time row else row ∷ []) ++ kept_at time (places ++ place ∷ []) rows
      at same =
          here row rows up same (is_gone time row) front (part_has time (λ b. b ≡ place) row (is_place places row.born) same)
          ∙ ap (λ b. (if b then kept time row else row ∷ []) ++ kept_at time places rows) (sym (ap (is_place (places ++ place ∷ [])) same ∙ place_there places place))
          ∙ ap (λ l. (if is_place (places ++ place ∷ []) row.born then kept time row else row ∷ []) ++ l)
          (sym (same_elsewhere rows (every_weaker (λ (r : KeyRow). row.born < r.born) (λ (r : KeyRow). place < r.born) (λ r lt. omega (arith, lt, same)) rows up.0)))

      elsewhere : kept_more time place (row_at rows place) (kept_at time places rows) ≡ kept_at time (places ++ place ∷ []) rows → row.born ≢ place → kept_more time place (row_at rows place) (front ++ kept_at time places rows) ≡ (if is_place (places ++ place ∷ []) row.born then kept time row else row ∷ []) ++ kept_at time (places ++ place ∷ []) rows
      elsewhere later apart =
          before front (kept_at time places rows) (kept_at time (places ++ place ∷ []) rows) row.born (part_has time (λ b. b ≡ row.born) row (is_place places row.born) refl) (row_at rows place)
          (λ r found. (made_there rows place r found, found_every (λ (later : KeyRow). row.born < later.born) (λ (later : KeyRow). is_eq (nat_cmp later.born place)) rows r found up.0))
          later
          ∙ ap (λ b. (if b then kept time row else row ∷ []) ++ kept_at time (places ++ place ∷ []) rows) (sym (place_elsewhere places place row.born apart))

      by_place : kept_more time place (row_at rows place) (kept_at time places rows) ≡ kept_at time (places ++ place ∷ []) rows → (o : Ordering) → nat_cmp row.born place ≡ o
          → kept_more time place (cond (is_eq o) (Some row) (row_at rows place)) (front ++ kept_at time places rows) ≡ (if is_place (places ++ place ∷ []) row.born then kept time row else row ∷ []) ++ kept_at time (places ++ place ∷ []) rows
      by_place later Less e = elsewhere later (λ same. less_equal (sym e ∙ itself row.born place same))
        where
          less_equal : Less ≡ Equal → ⊥
          less_equal e = cc
      by_place later Equal e = at (equal_places row.born place e)
      by_place later Greater e = elsewhere later (λ same. greater_equal (sym e ∙ itself row.born place same))
        where
          greater_equal : Greater ≡ Equal → ⊥
          greater_equal e = cc

-- none yet
pub kept_at_none : (time : ℕ) (rows : List KeyRow) → rows ≡ kept_at time [] rows
kept_at_none time [] = refl
kept_at_none time (row ∷ rows) = ap (λ l. row ∷ l) (kept_at_none time rows)

module _ (time : ℕ) (places : List ℕ) where
  abbrev pub Covers : KeyRow → Type 0
  Covers row = has_come time (date_of row) ≡ true → is_place places row.born ≡ true

  neither : (a b : Bool) → (a || b) ≡ false → (a ≡ false) × (b ≡ false)
  neither true b e = absurd (cc)
  neither false b e = (refl, e)

  not_both : (a b : Bool) → (a ≡ true → b ≡ true) → b ≡ false → a ≡ false
  not_both true b f e = absurd (cc_of (sym (f refl) ∙ e))
    where
      cc_of : true ≡ false → ⊥
      cc_of e = cc
  not_both false b f e = refl

  kept_part : (row : KeyRow) → Covers row → (rest : List KeyRow) (covered : Bool) → is_place places row.born ≡ covered
      → (if covered then kept time row else row ∷ []) ++ map (rotated_if_due time) rest ≡ map (rotated_if_due time) (cond (not (is_gone time row)) (row ∷ rest) rest)
  kept_part row covers rest true e = by_gone (is_gone time row)
    where
      by_gone : (gone : Bool) → (if gone then [] else rotated_if_due time row ∷ []) ++ map (rotated_if_due time) rest ≡ map (rotated_if_due time) (cond (not gone) (row ∷ rest) rest)
      by_gone true = refl
      by_gone false = refl
  kept_part row covers rest false e =
      let none = neither (is_gone time row) (is_due row time) (comes time row ∙ not_both (has_come time (date_of row)) (is_place places row.born) covers e) in
      ap (λ (r : KeyRow). r ∷ map (rotated_if_due time) rest) (sym (ap (λ b. if b then rotated time row else row) none.1))
      ∙ ap (λ b. map (rotated_if_due time) (cond (not b) (row ∷ rest) rest)) (sym none.0)

  -- all that housekeeping has something to do for
  pub all_kept : (rows : List KeyRow) → AllByRecursion Covers rows → kept_at time places rows ≡ house_kept time rows
  all_kept [] covers = refl
  all_kept (row ∷ rows) covers =
      ap (λ l. (if is_place places row.born then kept time row else row ∷ []) ++ l) (all_kept rows covers.1)
      ∙ kept_part row covers.0 (filter (λ r. not (is_gone time r)) rows) (is_place places row.born) refl

-- ---- the ids of those that are gone

pub gone_more : (time : ℕ) (rows : List KeyRow) (places : List ℕ) (place : ℕ) → gone_among time rows (places ++ place ∷ []) ≡ gone_among time rows places ++ gone_at time (row_at rows place)
gone_more time rows [] place = no_more (gone_at time (row_at rows place))
  where
    no_more : (ids : List (List ℕ)) → ids ++ [] ≡ ids
    no_more [] = refl
    no_more (id ∷ ids) = ap (λ l. id ∷ l) (no_more ids)
gone_more time rows (first ∷ places) place =
    ap (λ l. gone_at time (row_at rows first) ++ l) (gone_more time rows places place)
    ∙ joined (gone_at time (row_at rows first)) (gone_among time rows places) (gone_at time (row_at rows place))
  where
    joined : (a b c : List (List ℕ)) → a ++ (b ++ c) ≡ (a ++ b) ++ c
    joined [] b c = refl
    joined (x ∷ a) b c = ap (λ l. x ∷ l) (joined a b c)

same_answer : (a b : Bool) → (a ≡ true → b ≡ true) → (b ≡ true → a ≡ true) → a ≡ b
same_answer true b f g = sym (f refl)
same_answer false true f g = g refl
same_answer false false f g = refl

one_of : (a b : Bool) → (a || b) ≡ true → (X : Type 0) → (a ≡ true → X) → (b ≡ true → X) → X
one_of true b e X f g = f refl
one_of false b e X f g = g e

first_of_both : (a b : Bool) → a ≡ true → (a || b) ≡ true
first_of_both true b e = refl
first_of_both false b e = absurd (cc)

second_of_both : (a b : Bool) → b ≡ true → (a || b) ≡ true
second_of_both true b e = refl
second_of_both false b e = e

id_in_both : (ids others : List (List ℕ)) (id : List ℕ) → is_id (ids ++ others) id ≡ (is_id ids id || is_id others id)
id_in_both [] others id = refl
id_in_both (key ∷ ids) others id = by_test (bytes_eq id key) (id_in_both ids others id)
  where
    by_test : (b : Bool) → is_id (ids ++ others) id ≡ (is_id ids id || is_id others id) → (b || is_id (ids ++ others) id) ≡ ((b || is_id ids id) || is_id others id)
    by_test true later = refl
    by_test false later = later

module _ (time : ℕ) (id : List ℕ) where
  abbrev IsGoneWith : KeyRow → Type 0
  IsGoneWith row = (is_gone time row ≡ true) × (bytes_eq id row.key ≡ true)

  -- the id of a row that is gone is among theirs
  gone_is_there : (rows all : List KeyRow) → (is_id (gone_keys time rows) id ≡ true → is_id (gone_keys time all) id ≡ true) → AllByRecursion (λ row. IsGoneWith row → is_id (gone_keys time all) id ≡ true) rows
  gone_is_there [] all later = tt
  gone_is_there (row ∷ rows) all later = (
    λ is. later (first is.0 is.1 (is_gone time row) refl),
    gone_is_there rows all (λ e. later (by_gone (is_gone time row) e)),
  )
    where
      first : is_gone time row ≡ true → bytes_eq id row.key ≡ true → (b : Bool) → is_gone time row ≡ b → is_id (map (λ (r : KeyRow). r.key) (cond b (row ∷ filter (is_gone time) rows) (filter (is_gone time) rows))) id ≡ true
      first gone same true e = first_of_both (bytes_eq id row.key) (is_id (gone_keys time rows) id) same
      first gone same false e = absurd (cc_of (sym gone ∙ e))
        where
          cc_of : true ≡ false → ⊥
          cc_of e = cc

      by_gone : (b : Bool) → is_id (gone_keys time rows) id ≡ true → is_id (map (λ (r : KeyRow). r.key) (cond b (row ∷ filter (is_gone time) rows) (filter (is_gone time) rows))) id ≡ true
      by_gone true e = second_of_both (bytes_eq id row.key) (is_id (gone_keys time rows) id) e
      by_gone false e = e

  -- what follows from each of them follows from the id's being among theirs
  gone_means : (X : Type 0) (rows : List KeyRow) → AllByRecursion (λ row. IsGoneWith row → X) rows → is_id (gone_keys time rows) id ≡ true → X
  gone_means X [] all e = absurd (cc)
  gone_means X (row ∷ rows) all e = by_gone (gone_means X rows all.1) (is_gone time row) refl e
    where
      by_gone : (is_id (gone_keys time rows) id ≡ true → X) → (b : Bool) → is_gone time row ≡ b → is_id (map (λ (r : KeyRow). r.key) (cond b (row ∷ filter (is_gone time) rows) (filter (is_gone time) rows))) id ≡ true → X
      by_gone rest true gone f = one_of (bytes_eq id row.key) (is_id (gone_keys time rows) id) f X (λ same. all.0 (gone, same)) rest
      by_gone rest false gone f = rest f

  module _ (rows : List KeyRow) where
    found_gone : (found : Option KeyRow) → is_id (gone_at time found) id ≡ true → (row : KeyRow) × (found ≡ Some row) × IsGoneWith row
    found_gone None e = absurd (cc)
    found_gone (Some row) e = by_gone (is_gone time row) refl e
      where
        by_gone : (b : Bool) → is_gone time row ≡ b → is_id (if b then row.key ∷ [] else []) id ≡ true → (r : KeyRow) × (Some row ≡ Some r) × IsGoneWith r
        by_gone true gone f = (row, refl, (gone, one_of (bytes_eq id row.key) false f (bytes_eq id row.key ≡ true) (λ same. same) (λ none. absurd (cc))))
        by_gone false gone f = absurd (cc)

    among_are_gone : (places : List ℕ) → is_id (gone_among time rows places) id ≡ true → is_id (gone_keys time rows) id ≡ true
    among_are_gone [] e = absurd (cc)
    among_are_gone (place ∷ places) e =
        one_of (is_id (gone_at time (row_at rows place)) id) (is_id (gone_among time rows places) id) (sym (id_in_both (gone_at time (row_at rows place)) (gone_among time rows places) id) ∙ e)
        (is_id (gone_keys time rows) id ≡ true)
        (λ first.
        let is = found_gone (row_at rows place) first in
        found_every (λ row. IsGoneWith row → is_id (gone_keys time rows) id ≡ true) (λ (r : KeyRow). is_eq (nat_cmp r.born place)) rows is.0 is.1 (gone_is_there rows rows (λ later. later)) is.2)
        (λ later. among_are_gone places later)

    at_gone : (row : KeyRow) → IsGoneWith row → (b : Bool) → is_gone time row ≡ b → is_id (if b then row.key ∷ [] else []) id ≡ true
    at_gone row is true e = first_of_both (bytes_eq id row.key) false is.1
    at_gone row is false e = absurd (cc_of (sym is.0 ∙ e))
      where
        cc_of : true ≡ false → ⊥
        cc_of e = cc

    gone_is_among : (places : List ℕ) (row : KeyRow) → IsGoneWith row → row_at rows row.born ≡ Some row → is_place places row.born ≡ true → is_id (gone_among time rows places) id ≡ true
    gone_is_among [] row is at there = absurd (cc)
    gone_is_among (place ∷ places) row is at there =
        id_in_both (gone_at time (row_at rows place)) (gone_among time rows places) id
        ∙ one_of (place == row.born) (is_place places row.born) there ((is_id (gone_at time (row_at rows place)) id || is_id (gone_among time rows places) id) ≡ true)
        (λ same. first_of_both (is_id (gone_at time (row_at rows place)) id) (is_id (gone_among time rows places) id)
        (ap (λ o. is_id (gone_at time o) id) (ap (row_at rows) (equal place row.born same) ∙ at) ∙ at_gone row is (is_gone time row) refl))
        (λ later. second_of_both (is_id (gone_at time (row_at rows place)) id) (is_id (gone_among time rows places) id) (gone_is_among places row is at later))
      where
        equal : (x y : ℕ) → (x == y) ≡ true → x ≡ y
        equal x y e = grind (arith, nat_tests, e)

    comes_first : (row : KeyRow) → IsGoneWith row → has_come time (date_of row) ≡ true
    comes_first row is = sym (comes time row) ∙ first_of_both (is_gone time row) (is_due row time) is.0

    pub same_ids : (places : List ℕ) → Rises rows → AllByRecursion (Covers time places) rows → is_id (gone_among time rows places) id ≡ is_id (gone_keys time rows) id
    same_ids places up covers =
        same_answer (is_id (gone_among time rows places) id) (is_id (gone_keys time rows) id) (among_are_gone places)
        (gone_means (is_id (gone_among time rows places) id ≡ true) rows (each rows (each_at rows up) covers))
      where
        each : (l : List KeyRow) → AllByRecursion (λ (row : KeyRow). row_at rows row.born ≡ Some row) l → AllByRecursion (Covers time places) l → AllByRecursion (λ row. IsGoneWith row → is_id (gone_among time rows places) id ≡ true) l
        each [] at cover = tt
        each (row ∷ rest) at cover = (λ is. gone_is_among places row is at.0 (cover.0 (comes_first row is)), each rest at.1 cover.1)
