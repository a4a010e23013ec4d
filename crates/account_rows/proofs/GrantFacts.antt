-- The grants that a history makes.
use Rattle.std.proofs.Common.{◌≡◌, ℕ, ◌+◌, Bool, true, false, not, cond, List, [], ◌∷◌, ◌++◌, length, Option, None, Some, refl, sym, ◌∙◌, ap, arith}
use Rattle.std.specs.Prelude.{◌==◌, All}
use Rattle.std.proofs.lemmas.Bool.Decides.{nat_tests}
use Rattle.std.proofs.lemmas.List.Elements.{All-filter, All-push}
use Rattle.std.proofs.lemmas.List.Sums.{fold-append}
use Rattle.kms_names.proofs.Behind.{filter_all}
use Rattle.key_states.specs.declared.rows.KeyRow.{KeyRow}
use Rattle.grant_table.specs.declared.rows.GrantRow.{GrantRow}
use Rattle.grant_table.specs.Grants.{has_id, is_of_any, grant_with, without, without_keys}
use Rattle.account_rows.specs.declared.entries.Entry.{Entry}
use Rattle.account_rows.specs.declared.entries.What.{What}
use Rattle.account_rows.specs.declared.entries.What.TheVariants as what
use Rattle.account_rows.specs.Changes.{gone_keys}
use Rattle.account_rows.specs.Keys.{is_id}
use Rattle.account_rows.specs.GrantChanges.{GrantChange, adds, drops, houses, grant_change, grants_by, grants_after}
use Rattle.account_rows.specs.History.{step, nothing_yet, replay, place_in_grant, IsMadeHere, IsGrantOf}
use Rattle.account_rows.proofs.RowFacts.{replay-entries}

-- where none has the id, none is dropped
pub none_with : (grants : List GrantRow) (grant : List ℕ) → grant_with grants grant ≡ None → grants ≡ without grants grant
none_with [] grant is = refl
none_with (row ∷ rows) grant is = by_test (has_id grant row) (none_with rows grant) is
  where
    by_test : (b : Bool) → (grant_with rows grant ≡ None → rows ≡ without rows grant) → cond b (Some row) (grant_with rows grant) ≡ None → row ∷ rows ≡ cond (not b) (row ∷ without rows grant) (without rows grant)
    by_test true later is = absurd (cc)
    by_test false later is = ap (λ rs. row ∷ rs) (later is)

-- nor where there are no keys
pub none_of : (grants : List GrantRow) (keys : List (List ℕ)) → (length keys == 0) ≡ true → grants ≡ without_keys grants keys
none_of grants [] none = sym (filter_all (λ row. not (is_of_any [] row)) grants (λ k d lt. refl))
none_of grants (key ∷ keys) none = absurd (omega (arith, no_length (length (key ∷ keys)) none))
  where
    no_length : (n : ℕ) → (n == 0) ≡ true → n ≡ 0
    no_length n none = grind (arith, nat_tests, none)

-- keys that have the same ids leave the same grants
pub without_same : (grants : List GrantRow) (keys others : List (List ℕ)) → ((id : List ℕ) → is_id keys id ≡ is_id others id) → without_keys grants keys ≡ without_keys grants others
without_same [] keys others same = refl
without_same (row ∷ rows) keys others same =
    ap (λ b. cond (not b) (row ∷ without_keys rows keys) (without_keys rows keys)) (same row.key)
    ∙ ap (λ l. cond (not (is_id others row.key)) (row ∷ l) l) (without_same rows keys others same)

-- ---- each was made before the entries to come, at the place that its id ends with

later : (n : ℕ) (grants : List GrantRow) → All (IsGrantOf n) grants → All (IsGrantOf (n + 1)) grants
later n grants all k d lt = record { before = omega (arith, (all k d lt).before); named = (all k d lt).named }

-- a grant that is added was made here
abbrev AddedBy : ℕ → Option GrantChange → Type 0
AddedBy n None = Unit {0}
AddedBy n (Some (adds row)) = (row.born ≡ n) × (place_in_grant row.grant ≡ n)
AddedBy n (Some (drops grant)) = Unit {0}
AddedBy n (Some houses) = Unit {0}

added_by : (n time : ℕ) (w : What) → IsMadeHere n w → AddedBy n (grant_change n time w)
added_by n time (what.GrantAdd grant key grantee retiring operations constraint name) here = (refl, here)
added_by n time _ here = tt

rise_by : (n time : ℕ) (by : Option GrantChange) (keys : List KeyRow) (grants : List GrantRow) → AddedBy n by → All (IsGrantOf n) grants → All (IsGrantOf (n + 1)) (grants_by time keys by grants)
rise_by n time None keys grants here all = later n grants all
rise_by n time (Some (adds row)) keys grants here all = All-push (IsGrantOf (n + 1)) grants row (later n grants all) (record { before = omega (arith, here.0); named = here.1 ∙ sym here.0 })
rise_by n time (Some (drops grant)) keys grants here all = All-filter (λ row. not (has_id grant row)) (IsGrantOf (n + 1)) grants (later n grants all)
rise_by n time (Some houses) keys grants here all = All-filter (λ row. not (is_of_any (gone_keys time keys) row)) (IsGrantOf (n + 1)) grants (later n grants all)

pub grants_rise : (n time : ℕ) (w : What) (keys : List KeyRow) (grants : List GrantRow) → IsMadeHere n w → All (IsGrantOf n) grants → All (IsGrantOf (n + 1)) (grants_after n time w keys grants)
grants_rise n time w keys grants here all = rise_by n time (grant_change n time w) keys grants (added_by n time w here) all

-- ---- a history with one more entry

pub grants-push : (history : List Entry) (entry : Entry) → (replay (history ++ entry ∷ [])).grants ≡ grants_after (length history) entry.time entry.what (replay history).keys (replay history).grants
grants-push history entry =
    ap (λ state. state.grants) (fold-append step nothing_yet history (entry ∷ []))
    ∙ ap (λ place. grants_after place entry.time entry.what (replay history).keys (replay history).grants) (replay-entries history)
