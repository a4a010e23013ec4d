-- Rows of which those of some keys are taken out one after another.
use Rattle.std.proofs.Common.{◌≡◌, ◌≢◌, Bor, ℕ, suc, ◌<◌, ◌≤◌, Bool, true, false, not, ◌&&◌, ◌||◌, cond, List, [], ◌∷◌, ◌++◌, length, filter, find, Option, None, Some, refl, ap, ◌∙◌, sym, subst, arith}
use Rattle.std.specs.Prelude.{AllPairs, IfSome}
use Rattle.std.specs.List.{AllByRecursion}
use Rattle.std.specs.Option.{option_map}
use Rattle.std.proofs.lemmas.Bool.{false≢true}
use Rattle.std.proofs.lemmas.List.Folds.{list_any-append}
use Rattle.std.proofs.lemmas.Option.{none-some, same_Some}
use Rattle.std.proofs.lemmas.Slice.Eq.{bytes_eq-Decides}
use Rattle.persist_map.proofs.Edits.{filter_all}
use Rattle.grant_table.specs.Grants.{has_id, is_of_key, is_of_any, grant_with, without, without_keys, AreGrants}
use Rattle.grant_table.specs.declared.rows.GrantRow.{GrantRow}
use Rattle.grant_table.proofs.Lists.{first_before, pairs_behind, every_weaker, bytes_apart, filter_both, filter_alike, agree_everywhere, found_has, none_passes}

abbrev Differ : GrantRow → GrantRow → Type 0
Differ p q = p.grant ≢ q.grant

other_id : (row other : GrantRow) → other.grant ≢ row.grant → has_id row.grant other ≡ false
other_id row other apart = bytes_apart other.grant row.grant apart

own_id : (row : GrantRow) → has_id row.grant row ≡ true
own_id row = (bytes_eq-Decides row.grant row.grant).1 refl

-- a row that is found is the one of its id
pub found_own : (test : GrantRow → Bool) (rows : List GrantRow) (row : GrantRow) → AllPairs Differ rows → find test rows ≡ Some row → grant_with rows row.grant ≡ Some row
found_own test [] row ids found = absurd (none-some row found)
found_own test (first ∷ rows) row ids found = by_test (test first) refl (found_own test rows row (pairs_behind Differ first rows ids))
  where
    kept : (b : Bool) → test first ≡ b → cond b (Some first) (find test rows) ≡ Some row
    kept b e = sym (ap (λ b. cond b (Some first) (find test rows)) e) ∙ found

    by_test : (b : Bool) → test first ≡ b → (find test rows ≡ Some row → grant_with rows row.grant ≡ Some row) → grant_with (first ∷ rows) row.grant ≡ Some row
    by_test true e rest =
        let same : first ≡ row = same_Some first row (kept true e) in
        ap (λ b. cond b (Some first) (grant_with rows row.grant)) (ap (has_id row.grant) same ∙ own_id row) ∙ ap Some same
    by_test false e rest =
        ap (λ b. cond b (Some first) (grant_with rows row.grant)) (other_id row first (found_has test (Differ first) rows row (first_before Differ first rows ids) (kept false e))) ∙ rest (kept false e)

pub own_row : (test : GrantRow → Bool) (rows : List GrantRow) → AreGrants rows → (r : Option (Bor GrantRow)) → option_map (λ (row : Bor GrantRow). row.now) r ≡ find test rows → IfSome r (λ row. grant_with rows row.now.grant ≡ Some row.now)
own_row test rows grants None found = tt
own_row test rows grants (Some row) found = found_own test rows row.now grants.0 (sym found)

-- no other row has its id
only_own : (row : GrantRow) (rows : List GrantRow) → AllPairs Differ rows → grant_with rows row.grant ≡ Some row → AllByRecursion (λ (other : GrantRow). has_id row.grant other ≡ true → other ≡ row) rows
only_own row [] ids found = tt
only_own row (first ∷ rows) ids found = by_test (has_id row.grant first) refl (only_own row rows (pairs_behind Differ first rows ids))
  where
    kept : (b : Bool) → has_id row.grant first ≡ b → cond b (Some first) (grant_with rows row.grant) ≡ Some row
    kept b e = sym (ap (λ b. cond b (Some first) (grant_with rows row.grant)) e) ∙ found

    by_test : (b : Bool) → has_id row.grant first ≡ b → (grant_with rows row.grant ≡ Some row → AllByRecursion (λ (other : GrantRow). has_id row.grant other ≡ true → other ≡ row) rows) → AllByRecursion (λ (other : GrantRow). has_id row.grant other ≡ true → other ≡ row) (first ∷ rows)
    by_test true e rest =
        let same : first ≡ row = same_Some first row (kept true e) in
        ((λ _. same), every_weaker (Differ first) (λ (other : GrantRow). has_id row.grant other ≡ true → other ≡ row) (λ other apart has. absurd (apart (ap (λ (r : GrantRow). r.grant) same ∙ sym ((bytes_eq-Decides other.grant row.grant).0 has)))) rows (first_before Differ first rows ids))
    by_test false e rest = ((λ has. absurd (false≢true (sym e ∙ has))), rest (kept false e))

-- ---- the rows of one key

of_one : (key : List ℕ) (row : GrantRow) → is_of_any (key ∷ []) row ≡ is_of_key key row
of_one key row = or_false (is_of_key key row)
  where
    or_false : (b : Bool) → (b || false) ≡ b
    or_false true = refl
    or_false false = refl

pub key_stays : (key : List ℕ) (rows : List GrantRow) (row : GrantRow) → AreGrants rows → grant_with rows row.grant ≡ Some row → is_of_key key row ≡ true → without_keys (without rows row.grant) (key ∷ []) ≡ without_keys rows (key ∷ [])
key_stays key rows row grants found of_key =
    filter_both (λ other. not (has_id row.grant other)) (λ other. not (is_of_any (key ∷ []) other)) rows
    ∙ filter_alike (λ other. not (has_id row.grant other) && not (is_of_any (key ∷ []) other)) (λ other. not (is_of_any (key ∷ []) other)) rows
    (every_weaker (λ (other : GrantRow). has_id row.grant other ≡ true → other ≡ row) (λ other. (not (has_id row.grant other) && not (is_of_any (key ∷ []) other)) ≡ not (is_of_any (key ∷ []) other))
    (λ other same. absorbed (has_id row.grant other) (is_of_any (key ∷ []) other) (λ e. of_one key other ∙ ap (is_of_key key) (same e) ∙ of_key)) rows (only_own row rows grants.0 found))
  where
    absorbed : (a b : Bool) → (a ≡ true → b ≡ true) → (not a && not b) ≡ not b
    absorbed true b h = sym (ap not (h refl))
    absorbed false b h = refl

no_more : (test : GrantRow → Bool) (rows : List GrantRow) → length (filter test rows) ≤ length rows
no_more test [] = omega arith
no_more test (row ∷ rows) = by_test (test row) (no_more test rows)
  where
    by_test : (b : Bool) → length (filter test rows) ≤ length rows → length (cond b (row ∷ filter test rows) (filter test rows)) ≤ suc (length rows)
    by_test true le = omega arith
    by_test false le = omega arith

pub fewer : (grant : List ℕ) (rows : List GrantRow) (row : GrantRow) → grant_with rows grant ≡ Some row → length (without rows grant) < length rows
fewer grant [] row found = absurd (none-some row found)
fewer grant (first ∷ rows) row found = by_test (has_id grant first) refl (fewer grant rows row)
  where
    by_test : (b : Bool) → has_id grant first ≡ b → (grant_with rows grant ≡ Some row → length (without rows grant) < length rows) → length (cond (not (has_id grant first)) (first ∷ without rows grant) (without rows grant)) < suc (length rows)
    by_test true e rest = subst (λ (b : Bool). length (cond (not b) (first ∷ without rows grant) (without rows grant)) < suc (length rows)) (sym e) (let le = no_more (λ old. not (has_id grant old)) rows in omega arith)
    by_test false e rest = subst (λ (b : Bool). length (cond (not b) (first ∷ without rows grant) (without rows grant)) < suc (length rows)) (sym e) (let lt = rest (sym (ap (λ b. cond b (Some first) (grant_with rows grant)) e) ∙ found) in omega arith)

pub none_of_key : (key : List ℕ) (rows : List GrantRow) → find (λ row. is_of_key key row && true) rows ≡ None → without_keys rows (key ∷ []) ≡ rows
none_of_key key rows none =
    filter_all (λ row. not (is_of_any (key ∷ []) row)) rows
    (every_weaker (λ (row : GrantRow). (is_of_key key row && true) ≡ false) (λ row. not (is_of_any (key ∷ []) row) ≡ true) (λ row e. ap not (of_one key row ∙ and_true (is_of_key key row) e)) rows (none_passes (λ row. is_of_key key row && true) rows none))
  where
    and_true : (b : Bool) → (b && true) ≡ false → b ≡ false
    and_true true e = absurd (false≢true (sym e))
    and_true false e = refl

-- ---- the rows of some keys

pub no_keys : (rows : List GrantRow) → rows ≡ without_keys rows []
no_keys rows = sym (filter_all (λ row. not (is_of_any [] row)) rows (agree_everywhere (λ row. not (is_of_any [] row)) (λ row. true) (λ row. refl) rows))

pub one_key_more : (rows : List GrantRow) (keys : List (List ℕ)) (key : List ℕ) → without_keys (without_keys rows keys) (key ∷ []) ≡ without_keys rows (keys ++ (key ∷ []))
one_key_more rows keys key =
    filter_both (λ row. not (is_of_any keys row)) (λ row. not (is_of_any (key ∷ []) row)) rows
    ∙ filter_alike (λ row. not (is_of_any keys row) && not (is_of_any (key ∷ []) row)) (λ row. not (is_of_any (keys ++ (key ∷ [])) row)) rows
    (agree_everywhere (λ row. not (is_of_any keys row) && not (is_of_any (key ∷ []) row)) (λ row. not (is_of_any (keys ++ (key ∷ [])) row))
    (λ row. neither (is_of_any keys row) (is_of_any (key ∷ []) row) ∙ ap not (sym (list_any-append (λ k. is_of_key k row) keys (key ∷ [])))) rows)
  where
    neither : (a b : Bool) → (not a && not b) ≡ not (a || b)
    neither true b = refl
    neither false b = refl
