-- Groups by key and grantee, after one key's groups are changed.
use Rattle.std.proofs.Common.{◌≡◌, ℕ, Bool, true, false, cond, List, [], Option, None, Some, refl, ap, ◌∙◌, sym, subst}
use Rattle.std.specs.Prelude.{Result, IfOk}
use Rattle.std.specs.Cmp.Lexicographic.{slice_cmp}
use Rattle.std.specs.Option.{unwrap_or}
use Rattle.std.specs.Ordering.{nat_cmp, is_eq}
use Rattle.std.specs.Str.{bytes_eq}
use Rattle.std.specs.declared.cmp.Ordering.{Ordering}
use Rattle.std.proofs.lemmas.Bool.{false≢true}
use Rattle.std.proofs.lemmas.Cmp.{nat_list_cmp_total}
use Rattle.std.proofs.lemmas.Map.Text.{is_eq-slice_cmp}
use Rattle.std.proofs.lemmas.Slice.Eq.{bytes_eq-Decides}
use Rattle.kms_names.specs.declared.principals.Principal.{Principal}
use Rattle.persist_map.specs.Pairs.{value_at, with_pair, without_key}
use Rattle.persist_map.proofs.Laws.{value_at-with_pair, value_at-with_pair-other, value_at-without_key, value_at-without_key-other}
use Rattle.persist_map.proofs.Orders.{equal}
use Rattle.persist_map.specs.Groups.{group_of, group_with, group_without}
use Rattle.grant_table.specs.Tables.{Keys, groups_at, grantee_group, grantee_group_with, grantee_group_without}
use Rattle.grant_table.specs.declared.rows.GrantRow.{GrantRow}
use Rattle.grant_table.proofs.Lists.{bytes_apart}

abbrev Groups : Type 0
Groups = List (Principal × List (ℕ × GrantRow))

abbrev no_groups : Groups
no_groups = []

pub bytes_turned : (a b : List ℕ) → bytes_eq a b ≡ false → bytes_eq b a ≡ false
bytes_turned a b apart = bytes_apart b a (λ e. false≢true (sym apart ∙ (bytes_eq-Decides a b).1 (sym e)))

module _ (keys : Keys) (key : List ℕ) (changed : Keys) where
  groups_put : (groups : Groups) → changed ≡ with_pair (slice_cmp nat_cmp) keys key groups → (other : List ℕ) → groups_at changed other ≡ cond (bytes_eq key other) groups (groups_at keys other)
  groups_put groups is other = ap (λ l. groups_at l other) is ∙ by_test (bytes_eq key other) refl
    where
      by_test : (b : Bool) → bytes_eq key other ≡ b → groups_at (with_pair (slice_cmp nat_cmp) keys key groups) other ≡ cond (bytes_eq key other) groups (groups_at keys other)
      by_test true e = ap (λ o. unwrap_or o no_groups) (value_at-with_pair nat_list_cmp_total keys key groups other (equal (slice_cmp nat_cmp key other) (is_eq-slice_cmp key other ∙ e))) ∙ sym (ap (λ b. cond b groups (groups_at keys other)) e)
      by_test false e = ap (λ o. unwrap_or o no_groups) (value_at-with_pair-other nat_list_cmp_total keys key groups other (is_eq-slice_cmp key other ∙ e)) ∙ sym (ap (λ b. cond b groups (groups_at keys other)) e)

  pub groups_gone : changed ≡ without_key (slice_cmp nat_cmp) keys key → (other : List ℕ) → groups_at changed other ≡ cond (bytes_eq key other) no_groups (groups_at keys other)
  groups_gone is other = ap (λ l. groups_at l other) is ∙ by_test (bytes_eq key other) refl
    where
      by_test : (b : Bool) → bytes_eq key other ≡ b → groups_at (without_key (slice_cmp nat_cmp) keys key) other ≡ cond (bytes_eq key other) no_groups (groups_at keys other)
      by_test true e = ap (λ o. unwrap_or o no_groups) (value_at-without_key nat_list_cmp_total keys key other (equal (slice_cmp nat_cmp key other) (is_eq-slice_cmp key other ∙ e))) ∙ sym (ap (λ b. cond b no_groups (groups_at keys other)) e)
      by_test false e = ap (λ o. unwrap_or o no_groups) (value_at-without_key-other nat_list_cmp_total keys key other (is_eq-slice_cmp other key ∙ bytes_turned key other e)) ∙ sym (ap (λ b. cond b no_groups (groups_at keys other)) e)

  module _ (cmp : Principal → Principal → Ordering) (grantee : Principal) (change : Groups → List (ℕ × GrantRow)) where
    -- what is done to the groups of the key alone
    changed_at : (groups : Groups) → group_of cmp groups grantee ≡ change (groups_at keys key) → changed ≡ with_pair (slice_cmp nat_cmp) keys key groups → (other : List ℕ) → grantee_group cmp changed other grantee ≡ cond (bytes_eq key other) (change (groups_at keys other)) (grantee_group cmp keys other grantee)
    changed_at groups is put other = ap (λ l. group_of cmp l grantee) (groups_put groups put other) ∙ by_test (bytes_eq key other) refl
      where
        by_test : (b : Bool) → bytes_eq key other ≡ b → group_of cmp (cond b groups (groups_at keys other)) grantee ≡ cond b (change (groups_at keys other)) (grantee_group cmp keys other grantee)
        by_test true e = is ∙ ap (λ k. change (groups_at keys k)) ((bytes_eq-Decides key other).0 e)
        by_test false e = refl

module _ (cmp : Principal → Principal → Ordering) (keys : Keys) (row : GrantRow) (changed : Keys) where
  pub inserted : (groups : Groups) → ((grantee : Principal) → group_of cmp groups grantee ≡ group_with cmp (groups_at keys row.key) row.grantee row.born row grantee) → changed ≡ with_pair (slice_cmp nat_cmp) keys row.key groups → (key : List ℕ) (grantee : Principal) → grantee_group cmp changed key grantee ≡ grantee_group_with cmp keys row key grantee
  inserted groups is put key grantee = changed_at keys row.key changed cmp grantee (λ l. group_with cmp l row.grantee row.born row grantee) groups (is grantee) put key

  pub removed : (groups : Groups) → ((grantee : Principal) → group_of cmp groups grantee ≡ group_without cmp (groups_at keys row.key) row.grantee row.born grantee) → changed ≡ with_pair (slice_cmp nat_cmp) keys row.key groups → (key : List ℕ) (grantee : Principal) → grantee_group cmp changed key grantee ≡ grantee_group_without cmp keys row key grantee
  removed groups is put key grantee = changed_at keys row.key changed cmp grantee (λ l. group_without cmp l row.grantee row.born grantee) groups (is grantee) put key

  -- nothing is there to be removed
  pub removed_nothing : None ≡ value_at (slice_cmp nat_cmp) keys row.key → changed ≡ keys → (key : List ℕ) (grantee : Principal) → grantee_group cmp changed key grantee ≡ grantee_group_without cmp keys row key grantee
  removed_nothing none is key grantee = ap (λ l. grantee_group cmp l key grantee) is ∙ by_test (bytes_eq row.key key) refl
    where
      empty : (b : Bool) → [] ≡ cond b [] (group_of cmp no_groups grantee)
      empty true = refl
      empty false = refl

      by_test : (b : Bool) → bytes_eq row.key key ≡ b → grantee_group cmp keys key grantee ≡ cond b (group_without cmp (groups_at keys key) row.grantee row.born grantee) (grantee_group cmp keys key grantee)
      by_test true e =
          let none_at : no_groups ≡ groups_at keys key = ap (λ o. unwrap_or o no_groups) none ∙ ap (groups_at keys) ((bytes_eq-Decides row.key key).0 e) in
          ap (λ l. group_of cmp l grantee) (sym none_at) ∙ empty (is_eq (cmp row.grantee grantee)) ∙ ap (λ l. group_without cmp l row.grantee row.born grantee) none_at
      by_test false e = refl

-- a look-up in the maps as they are kept
module _ (keys inside : Keys) (same : inside ≡ keys) (key : List ℕ) where
  pub groups_found : (groups : Groups) → Some groups ≡ value_at (slice_cmp nat_cmp) inside key → groups ≡ groups_at keys key
  groups_found groups found = ap (λ o. unwrap_or o no_groups) found ∙ ap (λ l. groups_at l key) same

  pub no_groups_found : None ≡ value_at (slice_cmp nat_cmp) inside key → no_groups ≡ groups_at keys key
  no_groups_found none = ap (λ (o : Option Groups). unwrap_or o no_groups) none ∙ ap (λ l. groups_at l key) same

-- the same change of the same groups
pub same_insert : {E : Type 0} (cmp : Principal → Principal → Ordering) (row : GrantRow) (r : Result Groups E) {groups others : Groups} {grantee : Principal} {born : ℕ} → groups ≡ others → grantee ≡ row.grantee → born ≡ row.born → IfOk r (λ changed. (other : Principal) → group_of cmp changed other ≡ group_with cmp groups grantee born row other) → IfOk r (λ changed. (other : Principal) → group_of cmp changed other ≡ group_with cmp others row.grantee row.born row other)
same_insert cmp row r {groups} {others} {grantee} {born} same who place h =
    subst (λ (gs : Groups). IfOk r (λ changed. (other : Principal) → group_of cmp changed other ≡ group_with cmp gs row.grantee row.born row other)) same
    (subst (λ (p : Principal). IfOk r (λ changed. (other : Principal) → group_of cmp changed other ≡ group_with cmp groups p row.born row other)) who
    (subst (λ (n : ℕ). IfOk r (λ changed. (other : Principal) → group_of cmp changed other ≡ group_with cmp groups grantee n row other)) place h))
