-- The parts of a list come to an end, and joined they are its rows.
use Rattle.std.proofs.Common.{◌≡◌, ℕ, zero, suc, ◌+◌, ◌<◌, ◌≤◌, Bool, true, false, not, ◌&&◌, cond, List, [], ◌∷◌, ◌++◌, length, get_or, take, drop, Option, Some, None, refl, sym, ap, ◌∙◌, subst, arith}
use Rattle.std.specs.Prelude.{nat_lt, filter, option_map, All, Contains}
use Rattle.std.specs.List.{last_or}
use Rattle.std.proofs.lemmas.Bool.Decides.{nat_tests}
use Rattle.std.proofs.lemmas.List.Elements.{All-filter, All-take, All-head, All-tail, All-contains_itself, filter_passes}
use Rattle.std.proofs.lemmas.List.Kept.{AllPairs-filter}
use Rattle.kms_names.specs.Place.{is_behind}
use Rattle.key_states.specs.declared.rows.KeyRow.{KeyRow}
use Rattle.alias_map.specs.declared.rows.AliasRow.{AliasRow}
use Rattle.grant_table.specs.declared.rows.GrantRow.{GrantRow}
use Rattle.grant_table.specs.Grants.{is_of_key, has_retiring}
use Rattle.account_rows.specs.Changes.{is_gone}
use Rattle.account_steps.specs.View.{View, view_of, is_live}
use Rattle.account_lists.specs.declared.listings.Numbered.{Numbered}
use Rattle.account_lists.specs.Pages.{rows_behind, next_of, part_of, PartsFrom, last_part, one_more}
use Rattle.account_lists.specs.Lists.{is_listed_alias, listed_keys, listed_aliases, retirable_grants, grants_of_key, rotations_of, has_sought_id, has_sought_grantee}
use Rattle.account_lists.proofs.PageFacts.{joined_are}
use Rattle.account_lists.proofs.ListFacts.{numbers_rise}
use Rattle.account_laws.specs.Laws.{AreInOrder, IsWhole, ListsOfHistoriesAreWhole}
use Rattle.account_laws.proofs.Standing.{stand_in_order}

-- ---- fewer rows stand behind a row than behind a place that it is behind

module _ {A : Type 0} (born : A → ℕ) where
  abbrev behind : Option ℕ → A → Bool
  behind after row = is_behind after (born row)

  higher : (after : Option ℕ) (b c : ℕ) → is_behind after b ≡ true → is_behind (Some b) c ≡ true → is_behind after c ≡ true
  higher None b c is over = refl
  higher (Some place) b c is over = grind (arith, nat_tests, is, over)

  not_itself : (b : ℕ) → is_behind (Some b) b ≡ false
  not_itself b = grind (arith, nat_tests)

  one_row : (n : ℕ) (b c : Bool) (row : A) (few many : List A) → (b ≡ true → c ≡ true) → n + length few ≤ length many → n + length (cond b (row ∷ few) few) ≤ length (cond c (row ∷ many) many)
  one_row n true true row few many passes le = omega (arith, le)
  one_row n true false row few many passes le = absurd (let bad : false ≡ true = passes refl in cc)
  one_row n false true row few many passes le = omega (arith, le)
  one_row n false false row few many passes le = le

  -- what passes the one test passes the other
  at_most : (test other : A → Bool) → ((row : A) → test row ≡ true → other row ≡ true) → (rows : List A) → length (filter test rows) ≤ length (filter other rows)
  at_most test other passes [] = omega arith
  at_most test other passes (row ∷ rows) =
      let later = at_most test other passes rows in
      let more = one_row 0 (test row) (other row) row (filter test rows) (filter other rows) (passes row) (omega (arith, later)) in
      omega (arith, more)

  only_other : (b c : Bool) (row : A) (few many : List A) → b ≡ false → c ≡ true → length few ≤ length many → length (cond b (row ∷ few) few) < length (cond c (row ∷ many) many)
  only_other true c row few many fails passes le = absurd (cc)
  only_other false true row few many fails passes le = omega (arith, le)
  only_other false false row few many fails passes le = absurd (cc)

  fewer : (after : Option ℕ) (z : A) → behind after z ≡ true → (rows : List A) → Contains rows z → length (rows_behind born (Some (born z)) rows) < length (rows_behind born after rows)
  fewer after z is [] (k, lt, at) = absurd (omega (arith, lt))
  fewer after z is (row ∷ rows) (zero, lt, at) =
      only_other (behind (Some (born z)) row) (behind after row) row (rows_behind born (Some (born z)) rows) (rows_behind born after rows)
      (ap (behind (Some (born z))) at ∙ not_itself (born z)) (ap (behind after) at ∙ is)
      (at_most (behind (Some (born z))) (behind after) (λ other. higher after (born z) (born other) is) rows)
  fewer after z is (row ∷ rows) (suc k, lt, at) =
      let later = fewer after z is rows (k, omega (arith, lt), at) in
      let more = one_row 1 (behind (Some (born z)) row) (behind after row) row (rows_behind born (Some (born z)) rows) (rows_behind born after rows) (higher after (born z) (born row) is) (omega (arith, later)) in
      omega (arith, more)

  -- ---- so the parts come to an end

  last_of : (P : A → Type 0) (rows : List A) (first : Option A) (z : A) → ((row : A) → first ≡ Some row → P row) → All P rows → last_or first rows ≡ Some z → P z
  last_of P [] first z here all is = here z is
  last_of P (row ∷ rows) first z here all is =
      last_of P rows (Some row) z (λ w same. subst P (let e : row ≡ w = cc in e) (All-head P row rows all)) (All-tail P row rows all) is

  module _ (rows : List A) (limit : ℕ) where
    fewer_next : (after : Option ℕ) (place : ℕ) → next_of born limit (rows_behind born after rows) ≡ Some place → length (rows_behind born (Some place) rows) < length (rows_behind born after rows)
    fewer_next after place is = by_test (nat_lt limit (length here)) (last_or None (take limit here)) refl is
      where
        here : List A
        here = rows_behind born after rows

        Fewer : A → Type 0
        Fewer row = length (rows_behind born (Some (born row)) rows) < length (rows_behind born after rows)

        each : All Fewer (rows_behind born after rows)
        each k d lt =
            fewer after (get_or (rows_behind born after rows) k d) (filter_passes (behind after) rows k d lt) rows
            (All-filter (behind after) (Contains rows) rows (All-contains_itself rows) k d lt)

        by_test : (b : Bool) (last : Option A) → last_or None (take limit (rows_behind born after rows)) ≡ last → cond b (option_map born last) None ≡ Some place
            → length (rows_behind born (Some place) rows) < length (rows_behind born after rows)
        by_test true None last e = absurd (cc)
        by_test true (Some z) last e =
            subst (λ (n : ℕ). length (rows_behind born (Some n) rows) < length (rows_behind born after rows)) (let same : born z ≡ place = cc in same)
            (last_of Fewer (take limit (rows_behind born after rows)) None z (λ row none. absurd (cc)) (All-take Fewer limit (rows_behind born after rows) each) last)
        by_test false o last e = absurd (cc)

    abbrev Ends : Option ℕ → Type 0
    Ends after = (joined : List A) × PartsFrom born rows limit after joined

    with_part : (after next : Option ℕ) → (part_of born rows limit after).next ≡ next → ((place : ℕ) → next ≡ Some place → Ends (Some place)) → Ends after
    with_part after None is later = ((part_of born rows limit after).rows, last_part is)
    with_part after (Some place) is later = let rest = later place refl in ((part_of born rows limit after).rows ++ rest.0, one_more place is rest.1)

    come_to_an_end : (most : ℕ) (after : Option ℕ) → length (rows_behind born after rows) ≤ most → Ends after
    come_to_an_end zero after le =
        with_part after (part_of born rows limit after).next refl (λ place is. absurd (let less = fewer_next after place is in omega (arith, le, less)))
    come_to_an_end (suc most) after le =
        with_part after (part_of born rows limit after).next refl (λ place is. come_to_an_end most (Some place) (let less = fewer_next after place is in omega (arith, le, less)))

  pub is_whole : (rows : List A) → AreInOrder born rows → IsWhole born rows
  is_whole rows rise = record { in_order = rise; parts = λ limit some after joined. (joined_are born rows rise limit some after joined, made_of limit some after joined) }
    where
      made_of : (limit : ℕ) → 1 ≤ limit → (after : Option ℕ) (joined : List A) → joined ≡ rows_behind born after rows → PartsFrom born rows limit after joined
      made_of limit some after joined is =
          let ends = come_to_an_end rows limit (length (rows_behind born after rows)) after (omega arith) in
          subst (PartsFrom born rows limit after) (joined_are born rows rise limit some after ends.0 ends.1 ∙ sym is) ends.1

-- ---- the lists of a history that an account holds

pub lists_are_whole : ListsOfHistoriesAreWhole
lists_are_whole facts history x places held =
    let stand = stand_in_order facts history held in
    let view : View = view_of facts history x places in
    record {
      keys = is_whole (λ (row : KeyRow). row.born) (listed_keys view)
          (AllPairs-filter (λ (p q : KeyRow). p.born < q.born) (λ row. not (is_gone view.moment row)) view.keys stand.keys);
      aliases = λ key. is_whole (λ (row : AliasRow). row.born) (listed_aliases view key)
          (AllPairs-filter (λ (p q : AliasRow). p.born < q.born) (is_listed_alias view key) view.aliases stand.aliases);
      retirable = λ retiring. is_whole (λ (grant : GrantRow). grant.born) (retirable_grants view retiring)
          (grants_kept (is_live view) (filter (has_retiring retiring) view.grants) (grants_kept (has_retiring retiring) view.grants stand.grants));
      grants = λ key sought. is_whole (λ (grant : GrantRow). grant.born) (grants_of_key view key sought)
          (grants_kept (λ grant. has_sought_id sought.grant grant && has_sought_grantee sought.grantee grant) (filter (is_of_key key) view.grants) (grants_kept (is_of_key key) view.grants stand.grants));
      rotations = λ row. is_whole (λ (numbered : Numbered). numbered.number) (rotations_of row) (numbers_rise 2 (drop 1 row.versions));
    }
  where
    grants_kept : (test : GrantRow → Bool) (rows : List GrantRow) → AreInOrder (λ (grant : GrantRow). grant.born) rows → AreInOrder (λ (grant : GrantRow). grant.born) (filter test rows)
    grants_kept test rows stand = AllPairs-filter (λ (p q : GrantRow). p.born < q.born) test rows stand
