-- Aliases without those of a key.
use Rattle.std.proofs.Common.{◌≡◌, ◌≢◌, ℕ, ◌<◌, ◌≤◌, Bool, true, false, not, cond, List, [], ◌∷◌, length, filter, Some, refl, sym, ap, ◌∙◌, subst, arith}
use Rattle.std.specs.Prelude.{◌&&◌, ◌||◌, IsSome}
use Rattle.std.specs.List.{AllByRecursion}
use Rattle.std.proofs.lemmas.Bool.{false≢true}
use Rattle.std.proofs.lemmas.Option.{same_Some}
use Rattle.std.proofs.lemmas.Slice.Eq.{bytes_eq-Decides}
use Rattle.alias_map.specs.declared.rows.AliasRow.{AliasRow}
use Rattle.alias_map.specs.Aliases.{has_name, names_key, names_any, row_named, without, without_keys, IsThere, AreAliases}
use Rattle.alias_map.specs.Kept.{of_others}
use Rattle.alias_map.proofs.AliasFacts.{same_name, apart, aliases_behind, differ_behind}
use Rattle.alias_map.proofs.Reading.{Agree, filter_alike, filter_filter, found_has}

-- where none passes, all fail
pub none_passes : {X : Type 0} (test : X → Bool) (xs : List X) → filter test xs ≡ [] → filter (λ x. not (test x)) xs ≡ xs
none_passes test [] none = refl
none_passes test (x ∷ xs) none = by_test (test x) (none_passes test xs) none
  where
    by_test : (b : Bool) → (filter test xs ≡ [] → filter (λ x. not (test x)) xs ≡ xs) → cond b (x ∷ filter test xs) (filter test xs) ≡ [] → cond (not b) (x ∷ filter (λ x. not (test x)) xs) (filter (λ x. not (test x)) xs) ≡ x ∷ xs
    by_test true later none = absurd (omega (arith, ap length none))
    by_test false later none = ap (λ l. x ∷ l) (later none)

first_of : {X : Type 0} → X → List X → X
first_of d [] = d
first_of d (x ∷ xs) = x

first_same : {X : Type 0} (x y : X) (xs ys : List X) → x ∷ xs ≡ y ∷ ys → x ≡ y
unfolding first_of
first_same x y xs ys e = ap (first_of x) e

-- the first alias of a key is the one of its name
pub first_named : (rows : List AliasRow) (key : List ℕ) (row : AliasRow) (rest : List AliasRow) → AreAliases rows → filter (names_key key) rows ≡ row ∷ rest → (row_named rows row.name ≡ Some row) × (names_key key row ≡ true)
first_named [] key row rest aliases is = absurd (omega (arith, ap length is))
first_named (first ∷ rows) key row rest aliases is = by_test (names_key key first) refl (first_named rows key row rest (aliases_behind first rows aliases)) is
  where
    by_test : (b : Bool) → names_key key first ≡ b → (filter (names_key key) rows ≡ row ∷ rest → (row_named rows row.name ≡ Some row) × (names_key key row ≡ true))
        → cond b (first ∷ filter (names_key key) rows) (filter (names_key key) rows) ≡ row ∷ rest → (cond (has_name row.name first) (Some first) (row_named rows row.name) ≡ Some row) × (names_key key row ≡ true)
    by_test true e later is =
        let same : first ≡ row = first_same first row (filter (names_key key) rows) rest is in (
          ap (λ b. cond b (Some first) (row_named rows row.name)) ((bytes_eq-Decides first.name row.name).1 (ap (λ (r : AliasRow). r.name) same)) ∙ ap Some same,
          ap (names_key key) (sym same) ∙ e,
        )
    by_test false e later is =
        let found = later is in
        let differ : first.name ≢ row.name = found_has (λ (other : AliasRow). first.name ≢ other.name) (has_name row.name) rows row found.0 (differ_behind first rows aliases) in (
          ap (λ b. cond b (Some first) (row_named rows row.name)) (apart first.name row.name differ) ∙ found.0,
          found.1,
        )

module _ (key name : List ℕ) (row : AliasRow) (of_key : names_key key row ≡ true) where
  -- each alias of the name names the key
  abbrev NamesKey : AliasRow → Type 0
  NamesKey other = has_name name other ≡ true → names_key key other ≡ true

  all_name_key : (rows : List AliasRow) → AreAliases rows → row_named rows name ≡ Some row → AllByRecursion NamesKey rows
  all_name_key [] aliases is = tt
  all_name_key (first ∷ rows) aliases is = by_test (has_name name first) refl (all_name_key rows (aliases_behind first rows aliases)) is
    where
      others : first.name ≡ name → (rows : List AliasRow) → AllByRecursion (λ (other : AliasRow). first.name ≢ other.name) rows → AllByRecursion NamesKey rows
      others same [] differ = tt
      others same (other ∷ rows) differ = ((λ e. absurd (differ.0 (same ∙ sym (same_name name other e)))), others same rows differ.1)

      by_test : (b : Bool) → has_name name first ≡ b → (row_named rows name ≡ Some row → AllByRecursion NamesKey rows) → cond b (Some first) (row_named rows name) ≡ Some row → AllByRecursion NamesKey (first ∷ rows)
      by_test true e later is = ((λ _. ap (names_key key) (same_Some first row is) ∙ of_key), others (same_name name first e) rows (differ_behind first rows aliases))
      by_test false e later is = ((λ f. absurd (false≢true (sym e ∙ f))), later is)

  agree : (rows : List AliasRow) → AllByRecursion NamesKey rows → Agree (λ other. not (has_name name other) && not (names_key key other)) (λ other. not (names_key key other)) rows
  agree [] all = tt
  agree (first ∷ rows) all = (by_test (has_name name first) all.0, agree rows all.1)
    where
      by_test : (b : Bool) → (b ≡ true → names_key key first ≡ true) → (not b && not (names_key key first)) ≡ not (names_key key first)
      by_test true names = ap not (sym (names refl))
      by_test false names = refl

  pub others_stay : (rows : List AliasRow) → AreAliases rows → row_named rows name ≡ Some row → of_others key (without rows name) ≡ of_others key rows
  others_stay rows aliases is =
      filter_filter (λ other. not (names_key key other)) (λ other. not (has_name name other)) rows
      ∙ filter_alike (λ other. not (has_name name other) && not (names_key key other)) (λ other. not (names_key key other)) rows (agree rows (all_name_key rows aliases is))

-- one less
no_longer : (rows : List AliasRow) (name : List ℕ) → length (without rows name) ≤ length rows
no_longer [] name = omega arith
no_longer (first ∷ rows) name = by_test (has_name name first) (no_longer rows name)
  where
    by_test : (b : Bool) → length (without rows name) ≤ length rows → length (cond (not b) (first ∷ without rows name) (without rows name)) ≤ length (first ∷ rows)
    by_test true le = omega arith
    by_test false le = omega arith

pub fewer : (rows : List AliasRow) (name : List ℕ) → IsThere rows name → length (without rows name) < length rows
fewer [] name there = absurd (false≢true there)
fewer (first ∷ rows) name there = by_test (has_name name first) (fewer rows name) there
  where
    by_test : (b : Bool) → (IsThere rows name → length (without rows name) < length rows) → IsSome (cond b (Some first) (row_named rows name)) → length (cond (not b) (first ∷ without rows name) (without rows name)) < length (first ∷ rows)
    by_test true later there = omega (arith, no_longer rows name)
    by_test false later there = omega (arith, later there)

-- the keys are taken one after another
pub without_key_first : (rows : List AliasRow) (key : List ℕ) (keys : List (List ℕ)) → without_keys (of_others key rows) keys ≡ without_keys rows (key ∷ keys)
without_key_first rows key keys =
    filter_filter (λ row. not (names_any keys row)) (λ row. not (names_key key row)) rows
    ∙ filter_alike (λ row. not (names_key key row) && not (names_any keys row)) (λ row. not (names_any (key ∷ keys) row)) rows (all rows)
  where
    both : (a b : Bool) → (not a && not b) ≡ not (a || b)
    both true b = refl
    both false b = refl

    all : (rows : List AliasRow) → Agree (λ row. not (names_key key row) && not (names_any keys row)) (λ row. not (names_any (key ∷ keys) row)) rows
    all [] = tt
    all (row ∷ rows) = (both (names_key key row) (names_any keys row), all rows)

pub without_no_keys : (rows : List AliasRow) → without_keys rows [] ≡ rows
without_no_keys [] = refl
without_no_keys (row ∷ rows) = ap (λ l. row ∷ l) (without_no_keys rows)

pub is_there : (rows : List AliasRow) (name : List ℕ) (row : AliasRow) → row_named rows name ≡ Some row → IsThere rows name
is_there rows name row is = subst IsSome (sym is) refl
