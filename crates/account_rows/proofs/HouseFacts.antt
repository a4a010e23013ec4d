-- After housekeeping none is due at the same moment.
use Rattle.std.proofs.Common.{◌≡◌, ℕ, ◌≤◌, Bool, true, false, not, ◌&&◌, ◌||◌, List, [], ◌∷◌, ◌++◌, length, get_or, filter, Option, Some, None, refl, sym, ◌∙◌, ap, arith, if◌then◌else◌}
use Rattle.std.specs.Prelude.{All, nat_le, is_some}
use Rattle.std.proofs.lemmas.Bool.Decides.{nat_tests}
use Rattle.std.proofs.lemmas.List.Elements.{All-map, All-filter, filter_passes}
use Rattle.std.proofs.lemmas.List.Folds.{list_any_none}
use Rattle.key_states.specs.declared.rows.KeyRow.{KeyRow}
use Rattle.key_states.specs.States.{is_due, is_enabled}
use Rattle.account_rows.specs.declared.entries.Entry.{Entry}
use Rattle.account_rows.specs.declared.entries.What.{What}
use Rattle.account_rows.specs.declared.entries.What.TheVariants as what
use Rattle.account_rows.specs.Changes.{rotated, rotated_if_due, next_date, is_gone, house_kept, key_change, keys_after, wants_house}
use Rattle.account_rows.specs.History.{replay, latest_of, moment_of, has_room, housekeeping_of}
use Rattle.account_rows.specs.Sizes.{size_of}
use Rattle.account_rows.proofs.RowFacts.{replay-push, latest-push, KeepsBy, all_by}

-- a period of automatic rotation has at least one day
abbrev pub HasDays : Option ℕ → Type 0
HasDays None = Unit {0}
HasDays (Some period) = 1 ≤ period

-- an entry gives no other period
abbrev pub GivesDays : What → Type 0
GivesDays (what.RotationOn key period) = 1 ≤ period
GivesDays _ = Unit {0}

abbrev pub RowsHaveDays : List KeyRow → Type 0
RowsHaveDays rows = All (λ (row : KeyRow). HasDays row.period) rows

choose : (b : Bool) (row new : KeyRow) → HasDays row.period → HasDays new.period → HasDays (if b then new else row).period
choose true row new old is = is
choose false row new old is = old

days_by : (n time : ℕ) (w : What) → GivesDays w → KeepsBy (λ (row : KeyRow). HasDays row.period) (key_change n time w)
days_by n time (what.CreateKey key kind description policy tags) gives = tt
days_by n time (what.Enable key) gives = λ row is. is
days_by n time (what.Disable key) gives = λ row is. is
days_by n time (what.Schedule key date days) gives = λ row is. is
days_by n time (what.Cancel key) gives = λ row is. is
days_by n time (what.RotationOn key period) gives = λ row is. gives
days_by n time (what.RotationOff key) gives = λ row is. tt
days_by n time (what.RotateNow key) gives = λ row is. is
days_by n time (what.Policy key text) gives = λ row is. is
days_by n time (what.Description key text) gives = λ row is. is
days_by n time (what.Tag key tags) gives = λ row is. is
days_by n time (what.Untag key keys) gives = λ row is. is
days_by n time what.House gives = λ row is. choose (is_due row time) row (rotated time row) is is
days_by n time _ gives = tt

pub days_after_entry : (n time : ℕ) (w : What) (rows : List KeyRow) → GivesDays w → RowsHaveDays rows → RowsHaveDays (keys_after n time w rows)
days_after_entry n time w rows gives all = all_by (λ (row : KeyRow). HasDays row.period) (key_change n time w) rows (days_by n time w gives) all

-- ---- a row that was kept

-- its next date is behind the moment
not_yet : (time : ℕ) (period : Option ℕ) (next : ℕ) → HasDays period → (is_some period && nat_le (next_date time period next) time) ≡ false
not_yet time None next has = refl
not_yet time (Some period) next has = grind (arith, nat_tests, has)

rotated_rests : (time : ℕ) (row : KeyRow) → HasDays row.period → is_due (rotated time row) time ≡ false
rotated_rests time row has = both_false (is_enabled row.stored) _ (not_yet time row.period row.next has)
  where
    both_false : (a b : Bool) → b ≡ false → (a && b) ≡ false
    both_false true b e = e
    both_false false b e = refl

rests : (time : ℕ) (row : KeyRow) (b : Bool) → is_due row time ≡ b → not (is_gone time row) ≡ true → HasDays row.period
    → (is_gone time (if b then rotated time row else row) || is_due (if b then rotated time row else row) time) ≡ false
rests time row true due kept has = neither (is_gone time row) _ (of_not (is_gone time row) kept) (rotated_rests time row has)
  where
    of_not : (b : Bool) → not b ≡ true → b ≡ false
    of_not true e = cc
    of_not false e = refl

    neither : (a b : Bool) → a ≡ false → b ≡ false → (a || b) ≡ false
    neither a b e f = rw (e, f) refl
rests time row false due kept has = neither (is_gone time row) _ (of_not (is_gone time row) kept) due
  where
    of_not : (b : Bool) → not b ≡ true → b ≡ false
    of_not true e = cc
    of_not false e = refl

    neither : (a b : Bool) → a ≡ false → b ≡ false → (a || b) ≡ false
    neither a b e f = rw (e, f) refl

all_rest : (time : ℕ) (rows : List KeyRow) → RowsHaveDays rows → wants_house time (house_kept time rows) ≡ false
all_rest time rows all =
    list_any_none (λ (row : KeyRow). is_gone time row || is_due row time) (house_kept time rows)
    (All-map (λ (row : KeyRow). (is_gone time row || is_due row time) ≡ false) (rotated_if_due time) kept
    (λ k d lt. rests time (get_or kept k d) (is_due (get_or kept k d) time) refl (All-passed k d lt) (All-filter (λ row. not (is_gone time row)) (λ (row : KeyRow). HasDays row.period) rows all k d lt)))
  where
    kept : List KeyRow
    kept = filter (λ row. not (is_gone time row)) rows

    All-passed : All (λ (row : KeyRow). not (is_gone time row) ≡ true) kept
    All-passed = filter_passes (λ row. not (is_gone time row)) rows

house_is : (b : Bool) (t : ℕ) (found : Entry) → (if b then Some (record { time = t; what = what.House }) else None) ≡ Some found → (found.time ≡ t) × (found.what ≡ what.House)
house_is true t found e = let same : record { time = t; what = what.House } ≡ found = cc in (ap (λ (x : Entry). x.time) (sym same), ap (λ (x : Entry). x.what) (sym same))
house_is false t found e = cc

-- housekeeping is kept once at a moment
pub kept_once : (history : List Entry) (clock : ℕ) (entry : Entry) → RowsHaveDays (replay history).keys → housekeeping_of history clock ≡ Some entry → housekeeping_of (history ++ entry ∷ []) clock ≡ None
unfolding housekeeping_of
kept_once history clock entry all e =
    let is = house_is (wants_house (moment_of history clock) (replay history).keys && has_room history (size_of what.House)) (moment_of history clock) entry e in
    let time : latest_of (history ++ entry ∷ []) ≡ moment_of history clock = latest-push history entry ∙ is.0 in
    let moment : moment_of (history ++ entry ∷ []) clock ≡ moment_of history clock = omega (arith, time) in
    let keys : (replay (history ++ entry ∷ [])).keys ≡ house_kept (moment_of history clock) (replay history).keys =
    replay-push history entry ∙ ap (λ (w : What). keys_after (length history) entry.time w (replay history).keys) is.1 ∙ ap (λ (t : ℕ). house_kept t (replay history).keys) is.0 in
    let none : wants_house (moment_of (history ++ entry ∷ []) clock) (replay (history ++ entry ∷ [])).keys ≡ false =
    ap (λ (t : ℕ). wants_house t (replay (history ++ entry ∷ [])).keys) moment ∙ ap (wants_house (moment_of history clock)) keys ∙ all_rest (moment_of history clock) (replay history).keys all in
    ap (λ (b : Bool). if b && has_room (history ++ entry ∷ []) (size_of what.House) then Some (record { time = moment_of (history ++ entry ∷ []) clock; what = what.House }) else None) none
