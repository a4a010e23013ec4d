-- What a table keeps, after a row is added or taken out.
use Rattle.std.proofs.Common.{◌≡◌, ◌≢◌, ℕ, Bool, true, false, not, ◌&&◌, ◌==◌, cond, List, [], ◌∷◌, ◌++◌, length, filter, find, Option, None, Some, refl, ap, ◌∙◌, sym, subst, arith}
use Rattle.std.specs.Cmp.Lexicographic.{slice_cmp}
use Rattle.std.specs.List.{AllByRecursion}
use Rattle.std.specs.Ordering.{nat_cmp}
use Rattle.std.specs.Str.{bytes_eq}
use Rattle.std.specs.declared.cmp.Ordering.{Ordering}
use Rattle.std.proofs.lemmas.Bool.{false≢true}
use Rattle.std.proofs.lemmas.Cmp.{nat_list_cmp_total}
use Rattle.std.proofs.lemmas.List.Elements.{recursion_from_All}
use Rattle.std.proofs.lemmas.Map.Text.{is_eq-slice_cmp}
use Rattle.std.proofs.lemmas.Slice.Eq.{bytes_eq-Decides}
use Rattle.kms_names.specs.declared.principals.Principal.{Principal}
use Rattle.kms_names.proofs.Behind.{find_in_filter}
use Rattle.persist_map.specs.Pairs.{Ascends, value_at, with_pair, without_key}
use Rattle.persist_map.proofs.GroupFacts.{none_left}
use Rattle.persist_map.proofs.Laws.{value_at-with_pair, value_at-with_pair-other, value_at-without_key, value_at-without_key-other}
use Rattle.persist_map.proofs.Orders.{equal}
use Rattle.persist_map.specs.Groups.{group_of, group_with, group_without, IsIndexOf}
use Rattle.grant_table.specs.Grants.{has_id, is_of_key, has_retiring, is_principal, grant_with, without, MayAdd, AreGrants}
use Rattle.grant_table.specs.Principals.{same_principal}
use Rattle.grant_table.specs.Tables.{rows_of, Keys, groups_at, grantee_group, grantee_group_with, grantee_group_without, is_of_grantee, AreTable}
use Rattle.grant_table.specs.declared.rows.GrantRow.{GrantRow}
use Rattle.grant_table.proofs.GrantFacts.{without_keeps, none_yet}
use Rattle.grant_table.proofs.GranteeFacts.{bytes_turned}
use Rattle.persist_map.proofs.Indexes.{IsOf, IsOfNone, index_with, index_with_apart, index_without, index_without_apart}
use Rattle.grant_table.proofs.Lists.{bytes_apart, agree_everywhere, find_alike, find_none, find_push, every_weaker, filter_both}
use Rattle.grant_table.proofs.PrincipalFacts.{principal_cmp, principal_ties}
use Rattle.grant_table.proofs.RowFacts.{births_ascend, place_free, rows_with, places_with, grants_with, at_place, rows_without, places_without}

abbrev Pairs : Type 0
Pairs = List (ℕ × GrantRow)

-- ---- ids

module _ (by_id : List (List ℕ × GrantRow)) (rows : List GrantRow) (row : GrantRow) (ids : (grant : List ℕ) → value_at (slice_cmp nat_cmp) by_id grant ≡ grant_with rows grant) where
  not_there : AllByRecursion (λ (old : GrantRow). old.grant ≢ row.grant) rows → (grant : List ℕ) → row.grant ≡ grant → grant_with rows grant ≡ None
  not_there new grant same =
      find_none (has_id grant) rows (every_weaker (λ (old : GrantRow). old.grant ≢ row.grant) (λ (old : GrantRow). has_id grant old ≡ false) (λ old apart. bytes_apart old.grant grant (λ e. apart (e ∙ sym same))) rows new)

  last_found : (o : Option GrantRow) → o ≡ None → (b : Bool) → b ≡ true → Some row ≡ elim o as (λ o. Option GrantRow) [ None ↦ cond b (Some row) None | Some first ↦ Some first ]
  last_found None none true e = refl
  last_found None none false e = absurd (false≢true e)
  last_found (Some first) none b e = absurd (cc)

  last_left : (o : Option GrantRow) (b : Bool) → b ≡ false → o ≡ elim o as (λ o. Option GrantRow) [ None ↦ cond b (Some row) None | Some first ↦ Some first ]
  last_left None true e = absurd (false≢true (sym e))
  last_left None false e = refl
  last_left (Some first) b e = refl

  ids_with : AllByRecursion (λ (old : GrantRow). old.grant ≢ row.grant) rows → (grant : List ℕ) → value_at (slice_cmp nat_cmp) (with_pair (slice_cmp nat_cmp) by_id row.grant row) grant ≡ grant_with (rows ++ (row ∷ [])) grant
  ids_with new grant = by_test (bytes_eq row.grant grant) refl ∙ sym (find_push (has_id grant) rows row)
    where
      by_test : (b : Bool) → bytes_eq row.grant grant ≡ b → value_at (slice_cmp nat_cmp) (with_pair (slice_cmp nat_cmp) by_id row.grant row) grant ≡ elim (grant_with rows grant) as (λ o. Option GrantRow) [ None ↦ cond (bytes_eq row.grant grant) (Some row) None | Some first ↦ Some first ]
      by_test true e =
          value_at-with_pair nat_list_cmp_total by_id row.grant row grant (equal (slice_cmp nat_cmp row.grant grant) (is_eq-slice_cmp row.grant grant ∙ e))
          ∙ last_found (grant_with rows grant) (not_there new grant ((bytes_eq-Decides row.grant grant).0 e)) (bytes_eq row.grant grant) e
      by_test false e =
          value_at-with_pair-other nat_list_cmp_total by_id row.grant row grant (is_eq-slice_cmp row.grant grant ∙ e) ∙ ids grant
          ∙ last_left (grant_with rows grant) (bytes_eq row.grant grant) e

  ids_without : (grant : List ℕ) → value_at (slice_cmp nat_cmp) (without_key (slice_cmp nat_cmp) by_id row.grant) grant ≡ grant_with (without rows row.grant) grant
  ids_without grant = by_test (bytes_eq row.grant grant) refl ∙ sym (find_in_filter (λ old. not (has_id row.grant old)) (has_id grant) rows)
    where
      never : (a : Bool) → (a && not a) ≡ false
      never true = refl
      never false = refl

      always : (a b : Bool) → (a ≡ true → b ≡ false) → a ≡ (a && not b)
      always true true apart = absurd (false≢true (sym (apart refl)))
      always true false apart = refl
      always false b apart = refl

      apart : bytes_eq row.grant grant ≡ false → (old : GrantRow) → has_id grant old ≡ true → has_id row.grant old ≡ false
      apart other old e = ap (λ g. bytes_eq g row.grant) ((bytes_eq-Decides old.grant grant).0 e) ∙ bytes_turned row.grant grant other

      by_test : (b : Bool) → bytes_eq row.grant grant ≡ b → value_at (slice_cmp nat_cmp) (without_key (slice_cmp nat_cmp) by_id row.grant) grant ≡ find (λ old. has_id grant old && not (has_id row.grant old)) rows
      by_test true e =
          value_at-without_key nat_list_cmp_total by_id row.grant grant (equal (slice_cmp nat_cmp row.grant grant) (is_eq-slice_cmp row.grant grant ∙ e))
          ∙ sym (find_none (λ old. has_id grant old && not (has_id row.grant old)) rows
          (agree_everywhere (λ old. has_id grant old && not (has_id row.grant old)) (λ old. false) (λ old. ap (λ g. has_id grant old && not (has_id g old)) ((bytes_eq-Decides row.grant grant).0 e) ∙ never (has_id grant old)) rows))
      by_test false e =
          value_at-without_key-other nat_list_cmp_total by_id row.grant grant (is_eq-slice_cmp grant row.grant ∙ bytes_turned row.grant grant e) ∙ ids grant
          ∙ find_alike (has_id grant) (λ old. has_id grant old && not (has_id row.grant old)) rows
          (agree_everywhere (has_id grant) (λ old. has_id grant old && not (has_id row.grant old)) (λ old. always (has_id grant old) (has_id row.grant old) (apart e old)) rows)

-- ---- of which key, grantee and retiring principal a row is

of_its_key : (row : GrantRow) → IsOf (slice_cmp nat_cmp) is_of_key row row.key
of_its_key row other = sym (is_eq-slice_cmp row.key other)

of_its_grantee : (row : GrantRow) (key : List ℕ) → is_of_key key row ≡ true → IsOf principal_cmp (is_of_grantee key) row row.grantee
of_its_grantee row key is other = ap (λ b. b && same_principal row.grantee other) is ∙ principal_ties row.grantee other

of_no_grantee : (row : GrantRow) (key : List ℕ) → is_of_key key row ≡ false → IsOfNone principal_cmp (is_of_grantee key) row
of_no_grantee row key other_key other = ap (λ b. b && same_principal row.grantee other) other_key

of_its_retiring : (row : GrantRow) (retiring : Principal) → row.retiring ≡ Some retiring → IsOf principal_cmp has_retiring row retiring
of_its_retiring row retiring is other = ap (is_principal other) is ∙ principal_ties retiring other

of_no_retiring : (row : GrantRow) → row.retiring ≡ None → IsOfNone principal_cmp has_retiring row
of_no_retiring row none other = ap (is_principal other) none

same_groups : {K V : Type 0} (cmp : K → K → Ordering) (is_of : K → V → Bool) (rows : List (ℕ × V)) (groups changed : List (K × List (ℕ × V))) → ((key : K) → group_of cmp changed key ≡ group_of cmp groups key) → IsIndexOf cmp is_of rows groups → IsIndexOf cmp is_of rows changed
same_groups cmp is_of rows groups changed same index key = same key ∙ index key

-- ---- the table

module _ (pairs : Pairs) (by_id : List (List ℕ × GrantRow)) (by_key : List (List ℕ × Pairs)) (by_grantee : Keys) (by_retiring : List (Principal × Pairs)) (table : AreTable principal_cmp pairs by_id by_key by_grantee by_retiring) (row : GrantRow) where
  ascends : Ascends nat_cmp pairs
  ascends = births_ascend pairs table.places table.grants.1

  module _ (may : MayAdd (rows_of pairs) row) where
    free : value_at nat_cmp pairs row.born ≡ None
    free = place_free row pairs table.places may

    abbrev more : Pairs
    more = with_pair nat_cmp pairs row.born row

    grantees_with : (changed : Keys) → ((key : List ℕ) (grantee : Principal) → grantee_group principal_cmp changed key grantee ≡ grantee_group_with principal_cmp by_grantee row key grantee) → (key : List ℕ) → IsIndexOf principal_cmp (is_of_grantee key) more (groups_at changed key)
    grantees_with changed is key = by_test (bytes_eq row.key key) refl
      where
        by_test : (b : Bool) → bytes_eq row.key key ≡ b → IsIndexOf principal_cmp (is_of_grantee key) more (groups_at changed key)
        by_test true e =
            index_with principal_cmp (is_of_grantee key) pairs (groups_at by_grantee key) row.born ascends (table.grantees key) (groups_at changed key) row.grantee row (of_its_grantee row key e) free
            (λ grantee. is key grantee ∙ ap (λ b. cond b (group_with principal_cmp (groups_at by_grantee key) row.grantee row.born row grantee) (grantee_group principal_cmp by_grantee key grantee)) e)
        by_test false e =
            same_groups principal_cmp (is_of_grantee key) more (groups_at by_grantee key) (groups_at changed key)
            (λ grantee. is key grantee ∙ ap (λ b. cond b (group_with principal_cmp (groups_at by_grantee key) row.grantee row.born row grantee) (grantee_group principal_cmp by_grantee key grantee)) e)
            (index_with_apart principal_cmp (is_of_grantee key) pairs (groups_at by_grantee key) row.born ascends (table.grantees key) row (of_no_grantee row key e) free)

    retiring_with : (changed : List (Principal × Pairs)) → (row.retiring ≡ None → changed ≡ by_retiring) → ((retiring : Principal) → row.retiring ≡ Some retiring → (other : Principal) → group_of principal_cmp changed other ≡ group_with principal_cmp by_retiring retiring row.born row other) → IsIndexOf principal_cmp has_retiring more changed
    retiring_with changed none some = by_case row.retiring refl
      where
        by_case : (o : Option Principal) → row.retiring ≡ o → IsIndexOf principal_cmp has_retiring more changed
        by_case None e = subst (IsIndexOf principal_cmp has_retiring more) (sym (none e)) (index_with_apart principal_cmp has_retiring pairs by_retiring row.born ascends table.retiring row (of_no_retiring row e) free)
        by_case (Some retiring) e = index_with principal_cmp has_retiring pairs by_retiring row.born ascends table.retiring changed retiring row (of_its_retiring row retiring e) free (some retiring e)

    pub table_with : (pairs' : Pairs) (by_id' : List (List ℕ × GrantRow)) (by_key' : List (List ℕ × Pairs)) (by_grantee' : Keys) (by_retiring' : List (Principal × Pairs))
        → pairs' ≡ more → by_id' ≡ with_pair (slice_cmp nat_cmp) by_id row.grant row
        → ((key : List ℕ) → group_of (slice_cmp nat_cmp) by_key' key ≡ group_with (slice_cmp nat_cmp) by_key row.key row.born row key)
        → ((key : List ℕ) (grantee : Principal) → grantee_group principal_cmp by_grantee' key grantee ≡ grantee_group_with principal_cmp by_grantee row key grantee)
        → (row.retiring ≡ None → by_retiring' ≡ by_retiring) → ((retiring : Principal) → row.retiring ≡ Some retiring → (other : Principal) → group_of principal_cmp by_retiring' other ≡ group_with principal_cmp by_retiring retiring row.born row other)
        → AreTable principal_cmp pairs' by_id' by_key' by_grantee' by_retiring'
    table_with pairs' by_id' by_key' by_grantee' by_retiring' pairs_are ids_are keys_are grantees_are none some =
        subst (λ (ps : Pairs). AreTable principal_cmp ps by_id' by_key' by_grantee' by_retiring') (sym pairs_are) (
        subst (λ (l : List (List ℕ × GrantRow)). AreTable principal_cmp more l by_key' by_grantee' by_retiring') (sym ids_are) (
        record {
          grants = grants_with row pairs table.places may table.grants;
          places = places_with row pairs table.places may;
          ids = λ grant. ids_with by_id (rows_of pairs) row table.ids (recursion_from_All (λ (old : GrantRow). old.grant ≢ row.grant) (rows_of pairs) may.0) grant ∙ ap (λ rows. grant_with rows grant) (sym (rows_with row pairs table.places may));
          keys = index_with (slice_cmp nat_cmp) is_of_key pairs by_key row.born ascends table.keys by_key' row.key row (of_its_key row) free keys_are;
          grantees = grantees_with by_grantee' grantees_are;
          retiring = retiring_with by_retiring' none some;
        }))

    pub rows_are_with : (pairs' : Pairs) → pairs' ≡ more → rows_of pairs' ≡ rows_of pairs ++ (row ∷ [])
    rows_are_with pairs' is = ap rows_of is ∙ rows_with row pairs table.places may

  module _ (there : grant_with (rows_of pairs) row.grant ≡ Some row) where
    at : value_at nat_cmp pairs row.born ≡ Some row
    at = at_place row pairs table.places table.grants there

    abbrev less : Pairs
    less = without_key nat_cmp pairs row.born

    keys_without : (changed : List (List ℕ × Pairs)) → ((key : List ℕ) → group_of (slice_cmp nat_cmp) changed key ≡ group_without (slice_cmp nat_cmp) by_key row.key row.born key) → IsIndexOf (slice_cmp nat_cmp) is_of_key less changed
    keys_without changed is = index_without (slice_cmp nat_cmp) is_of_key pairs by_key row.born ascends table.keys changed row.key row at (of_its_key row) is

    abbrev IsLess : Keys → Type 0
    IsLess changed = (key : List ℕ) (grantee : Principal) → grantee_group principal_cmp changed key grantee ≡ grantee_group_without principal_cmp by_grantee row key grantee

    abbrev IsGone : Keys → Type 0
    IsGone changed = (key : List ℕ) → groups_at changed key ≡ cond (bytes_eq row.key key) [] (groups_at by_grantee key)

    others_stay : (key : List ℕ) → bytes_eq row.key key ≡ false → IsIndexOf principal_cmp (is_of_grantee key) less (groups_at by_grantee key)
    others_stay key e = index_without_apart principal_cmp (is_of_grantee key) pairs (groups_at by_grantee key) row.born ascends (table.grantees key) row at (of_no_grantee row key e)

    grantees_less : (changed : Keys) → IsLess changed → (key : List ℕ) → IsIndexOf principal_cmp (is_of_grantee key) less (groups_at changed key)
    grantees_less changed is key = by_test (bytes_eq row.key key) refl
      where
        by_test : (b : Bool) → bytes_eq row.key key ≡ b → IsIndexOf principal_cmp (is_of_grantee key) less (groups_at changed key)
        by_test true e =
            index_without principal_cmp (is_of_grantee key) pairs (groups_at by_grantee key) row.born ascends (table.grantees key) (groups_at changed key) row.grantee row at (of_its_grantee row key e)
            (λ grantee. is key grantee ∙ ap (λ b. cond b (group_without principal_cmp (groups_at by_grantee key) row.grantee row.born grantee) (grantee_group principal_cmp by_grantee key grantee)) e)
        by_test false e =
            same_groups principal_cmp (is_of_grantee key) less (groups_at by_grantee key) (groups_at changed key)
            (λ grantee. is key grantee ∙ ap (λ b. cond b (group_without principal_cmp (groups_at by_grantee key) row.grantee row.born grantee) (grantee_group principal_cmp by_grantee key grantee)) e)
            (others_stay key e)

    -- where the key has no grant left
    grantees_gone : (changed : Keys) → IsGone changed → filter (λ (pair : ℕ × GrantRow). is_of_key row.key pair.1) less ≡ [] → (key : List ℕ) → IsIndexOf principal_cmp (is_of_grantee key) less (groups_at changed key)
    grantees_gone changed is none key = subst (IsIndexOf principal_cmp (is_of_grantee key) less) (sym (is key)) (by_test (bytes_eq row.key key) refl)
      where
        by_test : (b : Bool) → bytes_eq row.key key ≡ b → IsIndexOf principal_cmp (is_of_grantee key) less (cond (bytes_eq row.key key) [] (groups_at by_grantee key))
        by_test true e =
            subst (λ (b : Bool). IsIndexOf principal_cmp (is_of_grantee key) less (cond b [] (groups_at by_grantee key))) (sym e)
            (λ grantee.
            ap (filter (λ (pair : ℕ × GrantRow). same_principal pair.1.grantee grantee)) (sym none ∙ ap (λ k. filter (λ (pair : ℕ × GrantRow). is_of_key k pair.1) less) ((bytes_eq-Decides row.key key).0 e))
            ∙ filter_both (λ (pair : ℕ × GrantRow). is_of_key key pair.1) (λ pair. same_principal pair.1.grantee grantee) less)
        by_test false e = subst (λ (b : Bool). IsIndexOf principal_cmp (is_of_grantee key) less (cond b [] (groups_at by_grantee key))) (sym e) (others_stay key e)

    grantees_without : (by_key' : List (List ℕ × Pairs)) → ((key : List ℕ) → group_of (slice_cmp nat_cmp) by_key' key ≡ group_without (slice_cmp nat_cmp) by_key row.key row.born key)
        → (last : Bool) → last ≡ (length (group_of (slice_cmp nat_cmp) by_key' row.key) == 0) → (changed : Keys) → (last ≡ false → IsLess changed) → (last ≡ true → IsGone changed) → (key : List ℕ) → IsIndexOf principal_cmp (is_of_grantee key) less (groups_at changed key)
    grantees_without by_key' keys_are true last changed one gone = grantees_gone changed (gone refl) (sym (keys_without by_key' keys_are row.key) ∙ none_left (group_of (slice_cmp nat_cmp) by_key' row.key) (sym last))
    grantees_without by_key' keys_are false last changed one gone = grantees_less changed (one refl)

    retiring_without : (changed : List (Principal × Pairs)) → (row.retiring ≡ None → changed ≡ by_retiring) → ((retiring : Principal) → row.retiring ≡ Some retiring → (other : Principal) → group_of principal_cmp changed other ≡ group_without principal_cmp by_retiring retiring row.born other) → IsIndexOf principal_cmp has_retiring less changed
    retiring_without changed none some = by_case row.retiring refl
      where
        by_case : (o : Option Principal) → row.retiring ≡ o → IsIndexOf principal_cmp has_retiring less changed
        by_case None e = subst (IsIndexOf principal_cmp has_retiring less) (sym (none e)) (index_without_apart principal_cmp has_retiring pairs by_retiring row.born ascends table.retiring row at (of_no_retiring row e))
        by_case (Some retiring) e = index_without principal_cmp has_retiring pairs by_retiring row.born ascends table.retiring changed retiring row at (of_its_retiring row retiring e) (some retiring e)

    pub table_without : (pairs' : Pairs) (by_id' : List (List ℕ × GrantRow)) (by_key' : List (List ℕ × Pairs)) (by_grantee' : Keys) (by_retiring' : List (Principal × Pairs))
        → pairs' ≡ less → by_id' ≡ without_key (slice_cmp nat_cmp) by_id row.grant
        → ((key : List ℕ) → group_of (slice_cmp nat_cmp) by_key' key ≡ group_without (slice_cmp nat_cmp) by_key row.key row.born key)
        → (last : Bool) → last ≡ (length (group_of (slice_cmp nat_cmp) by_key' row.key) == 0) → (last ≡ false → IsLess by_grantee') → (last ≡ true → IsGone by_grantee')
        → (row.retiring ≡ None → by_retiring' ≡ by_retiring) → ((retiring : Principal) → row.retiring ≡ Some retiring → (other : Principal) → group_of principal_cmp by_retiring' other ≡ group_without principal_cmp by_retiring retiring row.born other)
        → AreTable principal_cmp pairs' by_id' by_key' by_grantee' by_retiring'
    table_without pairs' by_id' by_key' by_grantee' by_retiring' pairs_are ids_are keys_are last last_is one gone none some =
        subst (λ (ps : Pairs). AreTable principal_cmp ps by_id' by_key' by_grantee' by_retiring') (sym pairs_are) (
        subst (λ (l : List (List ℕ × GrantRow)). AreTable principal_cmp less l by_key' by_grantee' by_retiring') (sym ids_are) (
        record {
          grants = subst AreGrants (sym (rows_without row pairs table.places table.grants there)) (without_keeps (rows_of pairs) row.grant table.grants);
          places = places_without row pairs table.places table.grants there;
          ids = λ grant. ids_without by_id (rows_of pairs) row table.ids grant ∙ ap (λ rows. grant_with rows grant) (sym (rows_without row pairs table.places table.grants there));
          keys = keys_without by_key' keys_are;
          grantees = grantees_without by_key' keys_are last last_is by_grantee' one gone;
          retiring = retiring_without by_retiring' none some;
        }))

    pub rows_are_without : (pairs' : Pairs) → pairs' ≡ less → rows_of pairs' ≡ without (rows_of pairs) row.grant
    rows_are_without pairs' is = ap rows_of is ∙ rows_without row pairs table.places table.grants there

-- nothing is kept of no rows
pub table_of_nothing : (pairs : Pairs) (by_id : List (List ℕ × GrantRow)) (by_key : List (List ℕ × Pairs)) (by_grantee : Keys) (by_retiring : List (Principal × Pairs)) → pairs ≡ [] → by_id ≡ [] → by_key ≡ [] → by_grantee ≡ [] → by_retiring ≡ [] → AreTable principal_cmp pairs by_id by_key by_grantee by_retiring
table_of_nothing [] [] [] [] [] a b c d e = record {
  grants = none_yet [] refl;
  places = λ k d lt. absurd (omega arith);
  ids = λ grant. refl;
  keys = λ key. refl;
  grantees = λ key grantee. refl;
  retiring = λ retiring. refl;
}
table_of_nothing pairs by_id by_key by_grantee (x ∷ xs) a b c d e = absurd (cc)
table_of_nothing pairs by_id by_key (x ∷ xs) by_retiring a b c d e = absurd (cc)
table_of_nothing pairs by_id (x ∷ xs) by_grantee by_retiring a b c d e = absurd (cc)
table_of_nothing pairs (x ∷ xs) by_key by_grantee by_retiring a b c d e = absurd (cc)
table_of_nothing (x ∷ xs) by_id by_key by_grantee by_retiring a b c d e = absurd (cc)
