-- The aliases that a history makes.
use Rattle.std.proofs.Common.{◌≡◌, ℕ, ◌+◌, ◌<◌, Bool, true, false, not, cond, List, [], ◌∷◌, ◌++◌, length, Option, None, Some, refl, sym, ◌∙◌, ap, subst, arith}
use Rattle.std.specs.Prelude.{◌==◌, All, MatchOption}
use Rattle.std.proofs.lemmas.Bool.Decides.{nat_tests}
use Rattle.std.proofs.lemmas.List.Elements.{All-cons, All-filter, All-push, All-head, All-tail}
use Rattle.std.proofs.lemmas.List.Sums.{fold-append}
use Rattle.kms_names.proofs.Behind.{filter_all}
use Rattle.key_states.specs.declared.rows.KeyRow.{KeyRow}
use Rattle.alias_map.specs.declared.rows.AliasRow.{AliasRow}
use Rattle.alias_map.specs.Aliases.{has_name, names_any, row_named, with_row, without, without_keys, AreBefore, MayPut}
use Rattle.account_rows.specs.declared.entries.Entry.{Entry}
use Rattle.account_rows.specs.declared.entries.What.{What}
use Rattle.account_rows.specs.Changes.{gone_keys}
use Rattle.account_rows.specs.Keys.{is_id}
use Rattle.account_rows.specs.AliasChanges.{AliasChange, puts, drops, houses, alias_change, aliases_by, put_row, aliases_after}
use Rattle.account_rows.specs.History.{step, nothing_yet, replay}
use Rattle.account_rows.proofs.RowFacts.{replay-entries}

-- an alias that is put may be
pub may_put : (place time : ℕ) (name key : List ℕ) (aliases : List AliasRow) → AreBefore aliases place → MayPut aliases (put_row place time name key (row_named aliases name))
may_put place time name key aliases before = by_row (row_named aliases name) refl
  where
    by_row : (old : Option AliasRow) → row_named aliases name ≡ old → MayPut aliases (put_row place time name key old)
    by_row None is = subst (λ o. MatchOption o (AreBefore aliases place) (λ (old : AliasRow). (old.born ≡ place) × (old.made ≡ time))) (sym is) before
    by_row (Some row) is = subst (λ o. MatchOption o (AreBefore aliases row.born) (λ (old : AliasRow). (old.born ≡ row.born) × (old.made ≡ row.made))) (sym is) (refl, refl)

-- where none has the name, none is dropped
pub none_named : (aliases : List AliasRow) (name : List ℕ) → row_named aliases name ≡ None → aliases ≡ without aliases name
none_named [] name is = refl
none_named (row ∷ rows) name is = by_test (has_name name row) (none_named rows name) is
  where
    by_test : (b : Bool) → (row_named rows name ≡ None → rows ≡ without rows name) → cond b (Some row) (row_named rows name) ≡ None → row ∷ rows ≡ cond (not b) (row ∷ without rows name) (without rows name)
    by_test true later is = absurd (cc)
    by_test false later is = ap (λ rs. row ∷ rs) (later is)

-- nor where there are no keys
pub none_of : (aliases : List AliasRow) (keys : List (List ℕ)) → (length keys == 0) ≡ true → aliases ≡ without_keys aliases keys
none_of aliases [] none = sym (filter_all (λ row. not (names_any [] row)) aliases (λ k d lt. refl))
none_of aliases (key ∷ keys) none = absurd (omega (arith, no_length (length (key ∷ keys)) none))
  where
    no_length : (n : ℕ) → (n == 0) ≡ true → n ≡ 0
    no_length n none = grind (arith, nat_tests, none)

-- keys that have the same ids leave the same aliases
pub without_same : (aliases : List AliasRow) (keys others : List (List ℕ)) → ((id : List ℕ) → is_id keys id ≡ is_id others id) → without_keys aliases keys ≡ without_keys aliases others
without_same [] keys others same = refl
without_same (row ∷ rows) keys others same =
    ap (λ b. cond (not b) (row ∷ without_keys rows keys) (without_keys rows keys)) (same row.key)
    ∙ ap (λ l. cond (not (is_id others row.key)) (row ∷ l) l) (without_same rows keys others same)

-- ---- each was made before the entries to come

all_with_row : (P : AliasRow → Type 0) (rows : List AliasRow) (row : AliasRow) → All P rows → P row → All P (with_row rows row)
all_with_row P [] row all here = All-push P [] row all here
all_with_row P (first ∷ rest) row all here = by_test (has_name row.name first) (all_with_row P rest row (All-tail P first rest all) here)
  where
    by_test : (b : Bool) → All P (with_row rest row) → All P (cond b (row ∷ rest) (first ∷ with_row rest row))
    by_test true later = All-cons P row rest here (All-tail P first rest all)
    by_test false later = All-cons P first (with_row rest row) (All-head P first rest all) later

named_all : (P : AliasRow → Type 0) (rows : List AliasRow) (name : List ℕ) (row : AliasRow) → row_named rows name ≡ Some row → All P rows → P row
named_all P [] name row is all = absurd (cc)
named_all P (first ∷ rest) name row is all = by_test (has_name name first) (named_all P rest name row) is
  where
    by_test : (b : Bool) → (row_named rest name ≡ Some row → All P rest → P row) → cond b (Some first) (row_named rest name) ≡ Some row → P row
    by_test true later is = let same : first ≡ row = cc in subst P same (All-head P first rest all)
    by_test false later is = later is (All-tail P first rest all)

later : (n : ℕ) (aliases : List AliasRow) → AreBefore aliases n → AreBefore aliases (n + 1)
later n aliases before k d lt = omega (arith, before k d lt)

put_before : (n time : ℕ) (name key : List ℕ) (aliases : List AliasRow) → AreBefore aliases n → (put_row n time name key (row_named aliases name)).born < n + 1
put_before n time name key aliases before = by_row (row_named aliases name) refl
  where
    by_row : (old : Option AliasRow) → row_named aliases name ≡ old → (put_row n time name key old).born < n + 1
    by_row None is = omega arith
    by_row (Some row) is = let old : row.born < n = named_all (λ (r : AliasRow). r.born < n) aliases name row is before in omega (arith, old)

before_by : (n time : ℕ) (by : Option AliasChange) (keys : List KeyRow) (aliases : List AliasRow) → AreBefore aliases n → AreBefore (aliases_by n time keys by aliases) (n + 1)
before_by n time None keys aliases before = later n aliases before
before_by n time (Some (puts name key)) keys aliases before =
    all_with_row (λ (r : AliasRow). r.born < n + 1) aliases (put_row n time name key (row_named aliases name)) (later n aliases before) (put_before n time name key aliases before)
before_by n time (Some (drops name)) keys aliases before = All-filter (λ row. not (has_name name row)) (λ (r : AliasRow). r.born < n + 1) aliases (later n aliases before)
before_by n time (Some houses) keys aliases before = All-filter (λ row. not (names_any (gone_keys time keys) row)) (λ (r : AliasRow). r.born < n + 1) aliases (later n aliases before)

pub before_after : (n time : ℕ) (w : What) (keys : List KeyRow) (aliases : List AliasRow) → AreBefore aliases n → AreBefore (aliases_after n time w keys aliases) (n + 1)
before_after n time w keys aliases before = before_by n time (alias_change w) keys aliases before

-- ---- a history with one more entry

pub aliases-push : (history : List Entry) (entry : Entry) → (replay (history ++ entry ∷ [])).aliases ≡ aliases_after (length history) entry.time entry.what (replay history).keys (replay history).aliases
aliases-push history entry =
    ap (λ state. state.aliases) (fold-append step nothing_yet history (entry ∷ []))
    ∙ ap (λ place. aliases_after place entry.time entry.what (replay history).keys (replay history).aliases) (replay-entries history)
