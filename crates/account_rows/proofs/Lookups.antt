-- A key is found by the place that its id ends with.
use Rattle.std.proofs.Common.{◌≡◌, ◌≢◌, ◌⊎◌, inl, inr, ℕ, zero, suc, ◌+◌, ◌<◌, ◌≤◌, Bool, true, false, cond, List, [], ◌∷◌, length, get_or, None, Some, refl, sym, ◌∙◌, ap, subst, arith}
use Rattle.std.specs.Str.{bytes_eq}
use Rattle.std.proofs.lemmas.List.{get_or_default}
use Rattle.std.proofs.lemmas.Slice.Eq.{bytes_eq-Decides}
use Rattle.key_states.specs.declared.rows.KeyRow.{KeyRow}
use Rattle.account_rows.specs.History.{AreRows, key_with, place_in}

-- ---- by the ids

module _ (id : List ℕ) where
  -- the one row of an id is found
  only_row : (rows : List KeyRow) (k : ℕ) (row : KeyRow) → k < length rows → row ≡ get_or rows k row → row.key ≡ id
      → ((j : ℕ) (d : KeyRow) → j < k → (get_or rows j d).key ≢ id) → key_with rows id ≡ Some row
  only_row [] k row lt at is others = absurd (omega arith)
  only_row (x ∷ xs) zero row lt at is others = by_test (bytes_eq x.key id) ((bytes_eq-Decides x.key id).1 (ap (λ (r : KeyRow). r.key) (sym at) ∙ is))
    where
      by_test : (b : Bool) → b ≡ true → cond b (Some x) (key_with xs id) ≡ Some row
      by_test true t = ap Some (sym at)
      by_test false t = absurd (cc)
  only_row (x ∷ xs) (suc k) row lt at is others =
      by_test (bytes_eq x.key id) (bytes_eq-Decides x.key id).0 (only_row xs k row (omega arith) at is (λ j d before. others (suc j) d (omega arith)))
    where
      by_test : (b : Bool) → (b ≡ true → x.key ≡ id) → key_with xs id ≡ Some row → cond b (Some x) (key_with xs id) ≡ Some row
      by_test true same later = absurd (others 0 x (omega arith) (same refl))
      by_test false same later = later

-- ---- by the places

module _ (n : ℕ) (rows : List KeyRow) (are : AreRows n rows) (id : List ℕ) where
  -- a row of the id was made at the place that the id ends with
  place_of : (k : ℕ) (d : KeyRow) → k < length rows → (get_or rows k d).key ≡ id → (get_or rows k d).born ≡ place_in id
  place_of k d lt is = sym (are.each k d lt).named ∙ ap place_in is

  cases : (i j : ℕ) → (i < j) ⊎ ((i ≡ j) ⊎ (j < i))
  cases i j = grind arith

  module _ (at : ℕ) (lt : at < length rows) (here : (d : KeyRow) → (get_or rows at d).born ≡ place_in id) where
    -- no other row has the id
    pub other : (k : ℕ) (d : KeyRow) → k < length rows → k ≢ at → (get_or rows k d).key ≢ id
    other k d within differ is = by_side (cases k at)
      where
        by_side : (k < at) ⊎ ((k ≡ at) ⊎ (at < k)) → ⊥
        by_side (inl before) = omega (arith, are.rise k at d before lt, place_of k d within is, here d)
        by_side (inr (inl same)) = differ same
        by_side (inr (inr behind)) = omega (arith, are.rise at k d behind within, place_of k d within is, here d)

    pub found_there : (row : KeyRow) → row ≡ get_or rows at row → bytes_eq row.key id ≡ true → Some row ≡ key_with rows id
    found_there row is same =
        sym (only_row id rows at row lt is ((bytes_eq-Decides row.key id).0 same) (λ j d before. other j d (omega arith) (λ (e : j ≡ at). omega (arith, e))))

-- a row of an id is the one that is found
pub unique : (n : ℕ) (rows : List KeyRow) → AreRows n rows → (id : List ℕ) (k : ℕ) (d : KeyRow) → k < length rows → (get_or rows k d).key ≡ id → key_with rows id ≡ Some (get_or rows k d)
unique n rows are id k d lt is =
    sym (found_there n rows are id k lt (λ e. place_of n rows are id k e lt (ap (λ (r : KeyRow). r.key) (get_or_default rows k e d lt) ∙ is)) (get_or rows k d)
    (get_or_default rows k d (get_or rows k d) lt) ((bytes_eq-Decides (get_or rows k d).key id).1 is))
