-- A row put in its place, and what stays true of aliases.
use Rattle.std.proofs.Common.{◌≡◌, ◌≢◌, ◌⊎◌, inl, inr, ℕ, suc, ◌+◌, ◌<◌, ◌≤◌, Bool, true, false, not, cond, List, [], ◌∷◌, ◌++◌, length, get_or, set, length-set, None, Some, refl, sym, ◌∙◌, ap, subst, arith}
use Rattle.std.specs.Prelude.{MatchOption, AllPairs}
use Rattle.std.specs.Bool.{Decides}
use Rattle.std.specs.List.{AllByRecursion, position_or_len}
use Rattle.std.specs.Str.{bytes_eq}
use Rattle.std.proofs.lemmas.List.Elements.{recursion_from_All}
use Rattle.std.proofs.lemmas.Bool.{false≢true}
use Rattle.std.proofs.lemmas.List.{get_or-set_same, get_or-set_other, get_or_default}
use Rattle.std.proofs.lemmas.List.Folds.{find_at}
use Rattle.std.proofs.lemmas.List.Kept.{AllPairs-filter}
use Rattle.std.proofs.lemmas.List.Quantifiers.{all_pairs_push}
use Rattle.std.proofs.lemmas.List.Sums.{fails_before_first, passes_at_first}
use Rattle.std.proofs.lemmas.Option.{slice_get-get_or, slice_get_past}
use Rattle.std.proofs.lemmas.Slice.Eq.{bytes_eq-Decides}
use Rattle.alias_map.specs.declared.rows.AliasRow.{AliasRow}
use Rattle.alias_map.specs.Aliases.{has_name, row_named, with_row, without, names_any, without_keys, AreBefore, MayPut, AreAliases}

-- the first place of a name, or the number of aliases
abbrev pub place_of : List AliasRow → AliasRow → ℕ
place_of rows row = position_or_len (has_name row.name) rows

-- ---- the row stands in the first place of its name, or behind all

one_more : (n : ℕ) → 1 + n ≡ suc n
one_more n = omega arith

put_there : (rows : List AliasRow) (row : AliasRow) → place_of rows row < length rows → set rows (place_of rows row) row ≡ with_row rows row
put_there [] row lt = absurd (omega arith)
put_there (first ∷ rest) row lt = by_test (has_name row.name first) (put_there rest row) lt
  where
    by_test : (b : Bool) → (place_of rest row < length rest → set rest (place_of rest row) row ≡ with_row rest row)
        → cond (not b) (1 + place_of rest row) 0 < suc (length rest) → set (first ∷ rest) (cond (not b) (1 + place_of rest row) 0) row ≡ cond b (row ∷ rest) (first ∷ with_row rest row)
    by_test true later lt = refl
    by_test false later lt = ap (λ i. set (first ∷ rest) i row) (one_more (place_of rest row)) ∙ ap (λ rows. first ∷ rows) (later (omega arith))

put_behind : (rows : List AliasRow) (row : AliasRow) → length rows ≤ place_of rows row → rows ++ row ∷ [] ≡ with_row rows row
put_behind [] row past = refl
put_behind (first ∷ rest) row past = by_test (has_name row.name first) (put_behind rest row) past
  where
    by_test : (b : Bool) → (length rest ≤ place_of rest row → rest ++ row ∷ [] ≡ with_row rest row)
        → suc (length rest) ≤ cond (not b) (1 + place_of rest row) 0 → first ∷ (rest ++ row ∷ []) ≡ cond b (row ∷ rest) (first ∷ with_row rest row)
    by_test true later past = absurd (omega arith)
    by_test false later past = ap (λ rows. first ∷ rows) (later (omega arith))

within : (rows : List AliasRow) (row : AliasRow) → (place_of rows row < length rows) ⊎ (length rows ≤ place_of rows row)
within rows row = grind arith

-- ---- what stays true

decides_name : (name : List ℕ) (row : AliasRow) → Decides (has_name name row) (row.name ≡ name)
decides_name name row = bytes_eq-Decides row.name name

pub same_name : (name : List ℕ) (row : AliasRow) → has_name name row ≡ true → row.name ≡ name
same_name name row = (decides_name name row).0

pub apart : (a b : List ℕ) → a ≢ b → bytes_eq a b ≡ false
apart a b differ = by_test (bytes_eq a b) (bytes_eq-Decides a b).0
  where
    by_test : (t : Bool) → (t ≡ true → a ≡ b) → t ≡ false
    by_test true same = absurd (differ (same refl))
    by_test false same = refl

-- the aliases behind the first one
pub aliases_behind : (row : AliasRow) (rows : List AliasRow) → AreAliases (row ∷ rows) → AreAliases rows
aliases_behind row rows aliases = (
  (λ i j d before within. aliases.0 (suc i) (suc j) d (omega arith) (omega arith)),
  (λ i j d before within. aliases.1 (suc i) (suc j) d (omega arith) (omega arith)),
)

pub differ_behind : (row : AliasRow) (rows : List AliasRow) → AreAliases (row ∷ rows) → AllByRecursion (λ (other : AliasRow). row.name ≢ other.name) rows
differ_behind row rows aliases = recursion_from_All (λ (other : AliasRow). row.name ≢ other.name) rows (λ k d within. aliases.0 0 (suc k) d (omega arith) (omega arith))

pub without_keeps : (rows : List AliasRow) (name : List ℕ) → AreAliases rows → AreAliases (without rows name)
without_keeps rows name (names, births) = (
  AllPairs-filter (λ (p q : AliasRow). p.name ≢ q.name) (λ row. not (has_name name row)) rows names,
  AllPairs-filter (λ (p q : AliasRow). p.born < q.born) (λ row. not (has_name name row)) rows births,
)

pub without_keys_keeps : (rows : List AliasRow) (keys : List (List ℕ)) → AreAliases rows → AreAliases (without_keys rows keys)
without_keys_keeps rows keys (names, births) = (
  AllPairs-filter (λ (p q : AliasRow). p.name ≢ q.name) (λ row. not (names_any keys row)) rows names,
  AllPairs-filter (λ (p q : AliasRow). p.born < q.born) (λ row. not (names_any keys row)) rows births,
)

-- a field that the row has in common with the one in whose place it stands
module _ {X : Type 0} (field : AliasRow → X) (rows : List AliasRow) (i : ℕ) (row : AliasRow) (lt : i < length rows) (same : (d : AliasRow) → field row ≡ field (get_or rows i d)) where
  same_field : (k : ℕ) (d : AliasRow) → field (get_or (set rows i row) k d) ≡ field (get_or rows k d)
  same_field k d = by_place (decided k i)
    where
      decided : (m n : ℕ) → (m ≡ n) ⊎ (m ≢ n)
      decided m n = grind arith

      by_place : (k ≡ i) ⊎ (k ≢ i) → field (get_or (set rows i row) k d) ≡ field (get_or rows k d)
      by_place (inl at) = subst (λ n. field (get_or (set rows i row) n d) ≡ field (get_or rows n d)) (sym at) (ap field (get_or-set_same rows i row d lt) ∙ same d)
      by_place (inr other) = ap field (get_or-set_other rows i k row d other)

module _ (rows : List AliasRow) (row : AliasRow) (aliases : AreAliases rows) where
  abbrev IsLike : AliasRow → Type 0
  IsLike old = (old.born ≡ row.born) × (old.made ≡ row.made)

  -- in the place of one of its name and birth
  keeps_there : place_of rows row < length rows → IsLike (get_or rows (place_of rows row) row) → AreAliases (set rows (place_of rows row) row)
  keeps_there lt like = (names, births)
    where
      at : (d : AliasRow) → get_or rows (place_of rows row) row ≡ get_or rows (place_of rows row) d
      at d = get_or_default rows (place_of rows row) row d lt

      name_at : (d : AliasRow) → row.name ≡ (get_or rows (place_of rows row) d).name
      name_at d = sym ((decides_name row.name (get_or rows (place_of rows row) d)).0 (passes_at_first (has_name row.name) rows d lt))

      born_at : (d : AliasRow) → row.born ≡ (get_or rows (place_of rows row) d).born
      born_at d = sym like.0 ∙ ap (λ (r : AliasRow). r.born) (at d)

      same_names : (k : ℕ) (d : AliasRow) → (get_or (set rows (place_of rows row) row) k d).name ≡ (get_or rows k d).name
      same_names = same_field (λ (r : AliasRow). r.name) rows (place_of rows row) row lt name_at

      same_births : (k : ℕ) (d : AliasRow) → (get_or (set rows (place_of rows row) row) k d).born ≡ (get_or rows k d).born
      same_births = same_field (λ (r : AliasRow). r.born) rows (place_of rows row) row lt born_at

      names : AllPairs (λ (p q : AliasRow). p.name ≢ q.name) (set rows (place_of rows row) row)
      names i j d before within e = aliases.0 i j d before (rw length-set at within) (sym (same_names i d) ∙ (e ∙ same_names j d))

      births : AllPairs (λ (p q : AliasRow). p.born < q.born) (set rows (place_of rows row) row)
      births i j d before within =
          let lt = aliases.1 i j d before (rw length-set at within) in
          subst (λ m. m < (get_or (set rows (place_of rows row) row) j d).born) (sym (same_births i d)) (subst (λ n. (get_or rows i d).born < n) (sym (same_births j d)) lt)

  -- behind all, where none has its name
  keeps_behind : length rows ≤ place_of rows row → AreBefore rows row.born → AreAliases (rows ++ row ∷ [])
  keeps_behind past before = (
    all_pairs_push (λ (p q : AliasRow). p.name ≢ q.name) rows row aliases.0
        (λ k d lt e. false≢true (sym (fails_before_first (has_name row.name) rows k d (omega arith)) ∙ (decides_name row.name (get_or rows k d)).1 e)),
    all_pairs_push (λ (p q : AliasRow). p.born < q.born) rows row aliases.1 (λ k d lt. before k d lt),
  )

  pub with_row_keeps : MayPut rows row → AreAliases (with_row rows row)
  with_row_keeps may =
      elim (within rows row) [
        | inl lt ↦
            let named : row_named rows row.name ≡ Some (get_or rows (place_of rows row) row) = find_at (has_name row.name) rows ∙ slice_get-get_or rows (place_of rows row) row lt in
            let like : IsLike (get_or rows (place_of rows row) row) = subst (λ o. MatchOption o (AreBefore rows row.born) IsLike) named may in
            subst AreAliases (put_there rows row lt) (keeps_there lt like)
        | inr past ↦
            let named : row_named rows row.name ≡ None = find_at (has_name row.name) rows ∙ slice_get_past rows (place_of rows row) past in
            let before : AreBefore rows row.born = subst (λ o. MatchOption o (AreBefore rows row.born) IsLike) named may in
            subst AreAliases (put_behind rows row past) (keeps_behind past before)
      ]
