-- The rows that a history makes.
use Rattle.std.proofs.Common.{◌≡◌, ℕ, ◌+◌, ◌<◌, ◌≤◌, Bool, true, false, not, cond, List, [], ◌∷◌, ◌++◌, length, length-append, get_or, map, filter, fold, Option, None, Some, refl, sym, ◌∙◌, ap, subst, arith, if◌then◌else◌}
use Rattle.std.specs.Prelude.{All, AllPairs}
use Rattle.std.specs.Str.{bytes_eq}
use Rattle.std.proofs.lemmas.List.{get_or-map, length-map}
use Rattle.std.proofs.lemmas.List.Elements.{All-map, All-filter, All-push, All-weaker, All-head, All-tail}
use Rattle.std.proofs.lemmas.List.Kept.{AllPairs-filter}
use Rattle.std.proofs.lemmas.List.Quantifiers.{all_pairs_push}
use Rattle.std.proofs.lemmas.List.Sums.{fold-append}
use Rattle.std.proofs.lemmas.Slice.Eq.{bytes_eq-Decides}
use Rattle.key_states.specs.declared.rows.KeyRow.{KeyRow}
use Rattle.key_states.specs.States.{is_due}
use Rattle.hmac_keys.specs.declared.kinds.KeyKind.{KeyKind}
use Rattle.resource_tags.specs.declared.tags.Tag.{Tag}
use Rattle.account_rows.specs.declared.entries.Entry.{Entry}
use Rattle.account_rows.specs.declared.entries.What.{What}
use Rattle.account_rows.specs.declared.entries.What.TheVariants as what
use Rattle.account_rows.specs.Changes.{KeyChange, makes, changes, houses, key_change, keys_by, with_version, new_key, changed, rotated, rotated_if_due, next_date, is_gone, house_kept, keys_after}
use Rattle.account_rows.specs.History.{State, step, nothing_yet, replay, latest_of, key_with, place_in, IsMadeHere, IsRowOf, AreRows}
use Rattle.account_rows.specs.Sizes.{size_of, bytes_in}

-- ---- one row

-- what an entry makes of a row: the same key, with at most one rotation and one version more
pub record Follows (row new : KeyRow) : Type 0 where
  pub key : new.key ≡ row.key
  pub born : new.born ≡ row.born
  pub kind : new.kind ≡ row.kind
  pub turned : new.on_demand ≤ row.on_demand + 1
  pub more : length row.versions ≤ length new.versions
  pub few : length new.versions ≤ length row.versions + 1

pub follows_itself : (row : KeyRow) → Follows row row
follows_itself row = record { key = refl; born = refl; kind = refl; turned = omega arith; more = omega arith; few = omega arith }

on_demand_more : (b : Bool) (n : ℕ) → (if b then n + 1 else n) ≤ n + 1
on_demand_more true n = omega arith
on_demand_more false n = omega arith

versioned : (time : ℕ) (on_demand : Bool) (next : ℕ) (row : KeyRow) → Follows row (with_version time on_demand next row)
versioned time on_demand next row = record {
  key = refl;
  born = refl;
  kind = refl;
  turned = on_demand_more on_demand row.on_demand;
  more = omega (arith, length-append row.versions (record { time = time; on_demand = on_demand } ∷ []));
  few = omega (arith, length-append row.versions (record { time = time; on_demand = on_demand } ∷ []));
}

alike : (new row : KeyRow) → new.key ≡ row.key → new.born ≡ row.born → new.kind ≡ row.kind → new.on_demand ≡ row.on_demand → new.versions ≡ row.versions → Follows row new
alike new row key born kind on_demand versions = record {
  key = key;
  born = born;
  kind = kind;
  turned = omega (arith, on_demand);
  more = omega (arith, ap length versions);
  few = omega (arith, ap length versions);
}

choose : (b : Bool) (row new : KeyRow) → Follows row new → Follows row (if b then new else row)
choose true row new is = is
choose false row new is = follows_itself row

-- ---- all rows

module _ (f : KeyRow → KeyRow) (follows : (row : KeyRow) → Follows row (f row)) (n : ℕ) where
  row_of : (row : KeyRow) → IsRowOf n row → IsRowOf (n + 1) (f row)
  row_of row is =
      let new = follows row in
      record {
        before = omega (arith, new.born, is.before);
        named = ap place_in new.key ∙ is.named ∙ sym new.born;
        turned = omega (arith, new.turned, is.turned);
        counted = omega (arith, new.few, is.counted);
        some = omega (arith, new.more, is.some);
      }

  pub rows_map : (rows : List KeyRow) → AreRows n rows → AreRows (n + 1) (map f rows)
  rows_map rows are = record { rise = rise; each = All-map (IsRowOf (n + 1)) f rows (λ k d lt. row_of (get_or rows k d) (are.each k d lt)) }
    where
      births : (k : ℕ) (d : KeyRow) → k < length rows → (get_or (map f rows) k d).born ≡ (get_or rows k d).born
      births k d lt = ap (λ (r : KeyRow). r.born) (get_or-map f rows k d d lt) ∙ (follows (get_or rows k d)).born

      rise : AllPairs (λ (p q : KeyRow). p.born < q.born) (map f rows)
      rise i j d before within =
          let inside : j < length rows = omega (arith, length-map rows f) in
          omega (arith, births i d (omega arith), births j d inside, are.rise i j d before inside)

changed_rows : (key : List ℕ) (change : KeyRow → KeyRow) → ((row : KeyRow) → Follows row (change row)) → (n : ℕ) (rows : List KeyRow) → AreRows n rows → AreRows (n + 1) (changed key change rows)
changed_rows key change follows n rows are =
    rows_map (λ row. if bytes_eq row.key key then change row else row) (λ row. choose (bytes_eq row.key key) row (change row) (follows row)) n rows are

pub due_follows : (time : ℕ) (row : KeyRow) → Follows row (rotated_if_due time row)
due_follows time row = choose (is_due row time) row (rotated time row) (versioned time false (next_date time row.period row.next) row)

house_rows : (time n : ℕ) (rows : List KeyRow) → AreRows n rows → AreRows (n + 1) (house_kept time rows)
house_rows time n rows are =
    rows_map (rotated_if_due time) (due_follows time) n (filter (λ row. not (is_gone time row)) rows)
    (record {
      rise = AllPairs-filter (λ (p q : KeyRow). p.born < q.born) (λ row. not (is_gone time row)) rows are.rise;
      each = All-filter (λ row. not (is_gone time row)) (IsRowOf n) rows are.each;
    })

-- ---- what a change of keys keeps

-- a change makes of each row one that follows it
abbrev FollowsBy : Option KeyChange → Type 0
FollowsBy None = Unit {0}
FollowsBy (Some (makes row)) = Unit {0}
FollowsBy (Some (changes key f)) = (row : KeyRow) → Follows row (f row)
FollowsBy (Some (houses time)) = Unit {0}

follows_by : (n time : ℕ) (w : What) → FollowsBy (key_change n time w)
follows_by n time (what.Enable key) = λ row. alike _ row refl refl refl refl refl
follows_by n time (what.Disable key) = λ row. alike _ row refl refl refl refl refl
follows_by n time (what.Schedule key date days) = λ row. alike _ row refl refl refl refl refl
follows_by n time (what.Cancel key) = λ row. alike _ row refl refl refl refl refl
follows_by n time (what.RotationOn key period) = λ row. alike _ row refl refl refl refl refl
follows_by n time (what.RotationOff key) = λ row. alike _ row refl refl refl refl refl
follows_by n time (what.RotateNow key) = λ row. versioned time true row.next row
follows_by n time (what.Policy key text) = λ row. alike _ row refl refl refl refl refl
follows_by n time (what.Description key text) = λ row. alike _ row refl refl refl refl refl
follows_by n time (what.Tag key tags) = λ row. alike _ row refl refl refl refl refl
follows_by n time (what.Untag key keys) = λ row. alike _ row refl refl refl refl refl
follows_by n time _ = tt

-- a key that is made has P, and what becomes of a row that has P has it too
module _ (P : KeyRow → Type 0) where
  abbrev pub KeepsBy : Option KeyChange → Type 0
  KeepsBy None = Unit {0}
  KeepsBy (Some (makes row)) = P row
  KeepsBy (Some (changes key f)) = (row : KeyRow) → P row → P (f row)
  KeepsBy (Some (houses time)) = (row : KeyRow) → P row → P (rotated_if_due time row)

  chosen : (b : Bool) (row new : KeyRow) → P row → P new → P (if b then new else row)
  chosen true row new old is = is
  chosen false row new old is = old

  pub all_by : (by : Option KeyChange) (rows : List KeyRow) → KeepsBy by → All P rows → All P (keys_by by rows)
  all_by None rows keeps all = all
  all_by (Some (makes row)) rows keeps all = All-push P rows row all keeps
  all_by (Some (changes key f)) rows keeps all =
      All-map P (λ row. if bytes_eq row.key key then f row else row) rows
      (λ k d lt. chosen (bytes_eq (get_or rows k d).key key) (get_or rows k d) (f (get_or rows k d)) (all k d lt) (keeps (get_or rows k d) (all k d lt)))
  all_by (Some (houses time)) rows keeps all =
      let kept = filter (λ row. not (is_gone time row)) rows in
      All-map P (rotated_if_due time) kept (λ k d lt. keeps (get_or kept k d) (All-filter (λ row. not (is_gone time row)) P rows all k d lt))

-- ---- what holds of every row

-- a key that an entry makes is such a row
abbrev pub IsNew : (KeyRow → Type 0) → ℕ → ℕ → What → Type 0
IsNew P place time (what.CreateKey key kind description policy tags) = P (new_key place time key kind description policy tags)
IsNew P place time _ = Unit {0}

module _ (P : KeyRow → Type 0) (keeps : (row new : KeyRow) → Follows row new → P row → P new) where
  abbrev NewBy : Option KeyChange → Type 0
  NewBy None = Unit {0}
  NewBy (Some (makes row)) = P row
  NewBy (Some (changes key f)) = Unit {0}
  NewBy (Some (houses time)) = Unit {0}

  new_by : (n time : ℕ) (w : What) → IsNew P n time w → NewBy (key_change n time w)
  new_by n time (what.CreateKey key kind description policy tags) new = new
  new_by n time _ new = tt

  keeps_by : (by : Option KeyChange) → FollowsBy by → NewBy by → KeepsBy P by
  keeps_by None follows new = tt
  keeps_by (Some (makes row)) follows new = new
  keeps_by (Some (changes key f)) follows new = λ row. keeps row (f row) (follows row)
  keeps_by (Some (houses time)) follows new = λ row. keeps row (rotated_if_due time row) (due_follows time row)

  pub all_after : (n time : ℕ) (w : What) (rows : List KeyRow) → IsNew P n time w → All P rows → All P (keys_after n time w rows)
  all_after n time w rows new all = all_by P (key_change n time w) rows (keeps_by (key_change n time w) (follows_by n time w) (new_by n time w new)) all

-- what holds of all rows holds of the one that is found
pub found_all : (P : KeyRow → Type 0) (rows : List KeyRow) (id : List ℕ) (row : KeyRow) → key_with rows id ≡ Some row → All P rows → P row
found_all P [] id row e all = cc
found_all P (x ∷ xs) id row e all = by_test (bytes_eq x.key id) (found_all P xs id row) e
  where
    by_test : (b : Bool) → (key_with xs id ≡ Some row → All P xs → P row) → cond b (Some x) (key_with xs id) ≡ Some row → P row
    by_test true later e = let same : x ≡ row = cc in subst P same (All-head P x xs all)
    by_test false later e = later e (All-tail P x xs all)

-- the row that is found of an id has that id
pub found_key : (rows : List KeyRow) (id : List ℕ) (row : KeyRow) → key_with rows id ≡ Some row → row.key ≡ id
found_key [] id row e = cc
found_key (x ∷ xs) id row e = by_test (bytes_eq x.key id) (bytes_eq-Decides x.key id).0 (found_key xs id row) e
  where
    by_test : (b : Bool) → (b ≡ true → x.key ≡ id) → (key_with xs id ≡ Some row → row.key ≡ id) → cond b (Some x) (key_with xs id) ≡ Some row → row.key ≡ id
    by_test true same later e = let first : x ≡ row = cc in sym (ap (λ (r : KeyRow). r.key) first) ∙ same refl
    by_test false same later e = later e

later_row : (n : ℕ) (row : KeyRow) → IsRowOf n row → IsRowOf (n + 1) row
later_row n row is = record { before = omega (arith, is.before); named = is.named; turned = omega (arith, is.turned); counted = omega (arith, is.counted); some = is.some }

new_rows : (time n : ℕ) (key : List ℕ) (kind : KeyKind) (description policy : List ℕ) (tags : List Tag) (rows : List KeyRow) → place_in key ≡ n → AreRows n rows
    → AreRows (n + 1) (rows ++ new_key n time key kind description policy tags ∷ [])
new_rows time n key kind description policy tags rows here are = record {
  rise = all_pairs_push (λ (p q : KeyRow). p.born < q.born) rows (new_key n time key kind description policy tags) are.rise (λ k d lt. (are.each k d lt).before);
  each = All-push (IsRowOf (n + 1)) rows (new_key n time key kind description policy tags) (All-weaker (IsRowOf n) (IsRowOf (n + 1)) (later_row n) rows are.each)
      (record { before = omega arith; named = here; turned = omega arith; counted = omega arith; some = omega arith });
}

later_rows : (n : ℕ) (rows : List KeyRow) → AreRows n rows → AreRows (n + 1) rows
later_rows n rows are = record { rise = are.rise; each = All-weaker (IsRowOf n) (IsRowOf (n + 1)) (later_row n) rows are.each }

-- a key that is made has an id that ends with the place, and was made there
abbrev MadeBy : ℕ → Option KeyChange → Type 0
MadeBy n None = Unit {0}
MadeBy n (Some (makes row)) =
    (time : ℕ) × (key : List ℕ) × (kind : KeyKind) × (description : List ℕ) × (policy : List ℕ) × (tags : List Tag) × (row ≡ new_key n time key kind description policy tags) × (place_in key ≡ n)
MadeBy n (Some (changes key f)) = Unit {0}
MadeBy n (Some (houses time)) = Unit {0}

made_by : (n time : ℕ) (w : What) → IsMadeHere n w → MadeBy n (key_change n time w)
made_by n time (what.CreateKey key kind description policy tags) here = (time, key, kind, description, policy, tags, refl, here)
made_by n time _ here = tt

rows_by : (n : ℕ) (by : Option KeyChange) (rows : List KeyRow) → FollowsBy by → MadeBy n by → AreRows n rows → AreRows (n + 1) (keys_by by rows)
rows_by n None rows follows made are = later_rows n rows are
rows_by n (Some (makes row)) rows follows made are = subst (λ (r : KeyRow). AreRows (n + 1) (rows ++ r ∷ [])) (sym made.6) (new_rows made.0 n made.1 made.2 made.3 made.4 made.5 rows made.7 are)
rows_by n (Some (changes key f)) rows follows made are = changed_rows key f follows n rows are
rows_by n (Some (houses time)) rows follows made are = house_rows time n rows are

-- one entry more
pub rows_after : (n time : ℕ) (w : What) (rows : List KeyRow) → IsMadeHere n w → AreRows n rows → AreRows (n + 1) (keys_after n time w rows)
rows_after n time w rows here are = rows_by n (key_change n time w) rows (follows_by n time w) (made_by n time w here) are

pub no_rows : (n : ℕ) (rows : List KeyRow) → rows ≡ [] → AreRows n rows
no_rows n rows none = record { rise = λ i j d before within. absurd (omega (arith, within, ap length none)); each = λ k d lt. absurd (omega (arith, lt, ap length none)) }

-- ---- a history with one more entry

-- the replay counts the entries
counted_from : (state : State) (history : List Entry) → (fold step state history).entries ≡ state.entries + length history
counted_from state [] = omega arith
counted_from state (entry ∷ history) = omega (arith, counted_from (step state entry) history)

pub replay-entries : (history : List Entry) → (replay history).entries ≡ length history
replay-entries history = omega (arith, counted_from nothing_yet history)

pub replay-push : (history : List Entry) (entry : Entry) → (replay (history ++ entry ∷ [])).keys ≡ keys_after (length history) entry.time entry.what (replay history).keys
replay-push history entry =
    ap (λ state. state.keys) (fold-append step nothing_yet history (entry ∷ []))
    ∙ ap (λ place. keys_after place entry.time entry.what (replay history).keys) (replay-entries history)

pub latest-push : (history : List Entry) (entry : Entry) → latest_of (history ++ entry ∷ []) ≡ entry.time
latest-push history entry = fold-append (λ time e. e.time) 0 history (entry ∷ [])

pub bytes-push : (history : List Entry) (entry : Entry) → bytes_in (history ++ entry ∷ []) ≡ bytes_in history + size_of entry.what
bytes-push history entry = fold-append (λ bytes e. bytes + size_of e.what) 0 history (entry ∷ [])

pub length-push : (history : List Entry) (entry : Entry) → length (history ++ entry ∷ []) ≡ length history + 1
length-push history entry = length-append history (entry ∷ [])
