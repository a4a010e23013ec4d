-- The groups after a change of one group.
use Rattle.std.proofs.Common.{◌≡◌, ℕ, ◌<◌, Bool, true, false, cond, not, List, [], ◌∷◌, length, filter, find, Option, Some, None, ◌==◌, rules, refl, sym, ap, ◌∙◌, arith, length-append}
use Rattle.std.proofs.lemmas.Bool.{false≢true, eqb-true}
use Rattle.std.proofs.lemmas.Cmp.{alike_right, tied_back}
use Rattle.std.proofs.lemmas.List.Elements.{All-append, All-cons, All-filter, filter_agree}
use Rattle.std.specs.Cmp.{IsTotalOrder}
use Rattle.std.specs.Option.{option_map, unwrap_or}
use Rattle.std.specs.declared.cmp.Ordering.{Ordering}
use Rattle.std.specs.declared.cmp.Ordering.TheVariants.{Equal}
use Rattle.std.specs.Ordering.{is_eq, nat_cmp}
use Rattle.persist_map.specs.Pairs.{is_below, is_above, has_key, value_at, with_pair, without_key, pairs_above}
use Rattle.kms_names.specs.Place.{is_behind}
use Rattle.persist_map.specs.Groups.{pairs_behind, group_of, group_with, group_without, HaveSome}
use Rattle.persist_map.proofs.Laws.{value_at-with_pair, value_at-with_pair-other, value_at-without_key, value_at-without_key-other}
use Rattle.persist_map.proofs.Orders.{equal}

module _ {K V : Type 0} {cmp : K → K → Ordering} (order : IsTotalOrder cmp) where
  -- two keys that are the same have one value
  pub value_at-same : (pairs : List (K × V)) (key other : K) → cmp key other ≡ Equal → value_at cmp pairs other ≡ value_at cmp pairs key
  value_at-same [] key other same = refl
  value_at-same (pair ∷ pairs) key other same = first (value_at-same pairs key other same)
    where
      rest : K → Option (K × V)
      rest key = find (has_key cmp key) pairs

      by_first : (b : Bool) → option_map (λ (pair : K × V). pair.1) (rest other) ≡ option_map (λ (pair : K × V). pair.1) (rest key) → option_map (λ (pair : K × V). pair.1) (cond b (Some pair) (rest other)) ≡ option_map (λ (pair : K × V). pair.1) (cond b (Some pair) (rest key))
      by_first true h = refl
      by_first false h = h

      first : option_map (λ (pair : K × V). pair.1) (rest other) ≡ option_map (λ (pair : K × V). pair.1) (rest key) → option_map (λ (pair : K × V). pair.1) (cond (has_key cmp other pair) (Some pair) (rest other)) ≡ option_map (λ (pair : K × V). pair.1) (cond (has_key cmp key pair) (Some pair) (rest key))
      first h = ap (λ o. option_map (λ (pair : K × V). pair.1) (cond (is_eq o) (Some pair) (rest other))) (sym (alike_right order key other pair.0 same)) ∙ by_first (has_key cmp key pair) h

module _ {K V : Type 0} {cmp : K → K → Ordering} (order : IsTotalOrder cmp) (groups : List (K × List (ℕ × V))) (key : K) where
  abbrev pub no_group : List (ℕ × V)
  no_group = []

  group-same : (other : K) → is_eq (cmp key other) ≡ true → group_of cmp groups other ≡ group_of cmp groups key
  group-same other e = ap (λ o. unwrap_or o no_group) (value_at-same order groups key other (equal (cmp key other) e))

  turned_apart : (other : K) → is_eq (cmp key other) ≡ false → is_eq (cmp other key) ≡ false
  turned_apart other e = by_test (is_eq (cmp other key)) refl
    where
      by_test : (b : Bool) → is_eq (cmp other key) ≡ b → is_eq (cmp other key) ≡ false
      by_test true f = absurd (false≢true (sym e ∙ ap is_eq (tied_back order other key (equal (cmp other key) f))))
      by_test false f = f

  module _ (changed : List (K × List (ℕ × V))) (place : ℕ) where
    -- a group is put
    put_group : (group : List (ℕ × V)) → changed ≡ with_pair cmp groups key group → (other : K) → group_of cmp changed other ≡ cond (is_eq (cmp key other)) group (group_of cmp groups other)
    put_group group is other = ap (λ l. group_of cmp l other) is ∙ by_test (is_eq (cmp key other)) refl
      where
        by_test : (b : Bool) → is_eq (cmp key other) ≡ b → group_of cmp (with_pair cmp groups key group) other ≡ cond (is_eq (cmp key other)) group (group_of cmp groups other)
        by_test true e = ap (λ o. unwrap_or o no_group) (value_at-with_pair order groups key group other (equal (cmp key other) e)) ∙ sym (ap (λ b. cond b group (group_of cmp groups other)) e)
        by_test false e = ap (λ o. unwrap_or o no_group) (value_at-with_pair-other order groups key group other e) ∙ sym (ap (λ b. cond b group (group_of cmp groups other)) e)

    -- a group is taken out
    drop_group : changed ≡ without_key cmp groups key → (other : K) → group_of cmp changed other ≡ cond (is_eq (cmp key other)) no_group (group_of cmp groups other)
    drop_group is other = ap (λ l. group_of cmp l other) is ∙ by_test (is_eq (cmp key other)) refl
      where
        by_test : (b : Bool) → is_eq (cmp key other) ≡ b → group_of cmp (without_key cmp groups key) other ≡ cond (is_eq (cmp key other)) no_group (group_of cmp groups other)
        by_test true e = ap (λ o. unwrap_or o no_group) (value_at-without_key order groups key other (equal (cmp key other) e)) ∙ sym (ap (λ b. cond b no_group (group_of cmp groups other)) e)
        by_test false e = ap (λ o. unwrap_or o no_group) (value_at-without_key-other order groups key other (turned_apart other e)) ∙ sym (ap (λ b. cond b no_group (group_of cmp groups other)) e)

    -- what is done to the key's group is done to the group of each key that is the same
    changed_so : (change : List (ℕ × V) → List (ℕ × V)) (group : List (ℕ × V)) → group ≡ change (group_of cmp groups key) → (other : K) → cond (is_eq (cmp key other)) group (group_of cmp groups other) ≡ cond (is_eq (cmp key other)) (change (group_of cmp groups other)) (group_of cmp groups other)
    changed_so change group is other = by_test (is_eq (cmp key other)) refl
      where
        by_test : (b : Bool) → is_eq (cmp key other) ≡ b → cond b group (group_of cmp groups other) ≡ cond b (change (group_of cmp groups other)) (group_of cmp groups other)
        by_test true e = is ∙ ap change (sym (group-same other e))
        by_test false e = refl

    pub with_group : (group : List (ℕ × V)) (value : V) → group ≡ with_pair nat_cmp (group_of cmp groups key) place value → changed ≡ with_pair cmp groups key group → (other : K) → group_of cmp changed other ≡ group_with cmp groups key place value other
    with_group group value is put other = put_group group put other ∙ changed_so (λ l. with_pair nat_cmp l place value) group is other

    pub less_group : (group : List (ℕ × V)) → group ≡ without_key nat_cmp (group_of cmp groups key) place → changed ≡ with_pair cmp groups key group → (other : K) → group_of cmp changed other ≡ group_without cmp groups key place other
    less_group group is put other = put_group group put other ∙ changed_so (λ l. without_key nat_cmp l place) group is other

    pub without_group : no_group ≡ without_key nat_cmp (group_of cmp groups key) place → changed ≡ without_key cmp groups key → (other : K) → group_of cmp changed other ≡ group_without cmp groups key place other
    without_group is put other = drop_group put other ∙ changed_so (λ l. without_key nat_cmp l place) no_group is other

    pub same_groups : value_at cmp groups key ≡ None → changed ≡ groups → (other : K) → group_of cmp changed other ≡ group_without cmp groups key place other
    same_groups none is other =
        ap (λ l. group_of cmp l other) is ∙ unchanged (is_eq (cmp key other)) refl
        ∙ changed_so (λ l. without_key nat_cmp l place) (group_of cmp groups key) (empty ∙ ap (λ l. without_key nat_cmp l place) (sym empty)) other
      where
        empty : group_of cmp groups key ≡ no_group
        empty = ap (λ o. unwrap_or o no_group) none

        unchanged : (b : Bool) → is_eq (cmp key other) ≡ b → group_of cmp groups other ≡ cond (is_eq (cmp key other)) (group_of cmp groups key) (group_of cmp groups other)
        unchanged true e = group-same other e ∙ sym (ap (λ b. cond b (group_of cmp groups key) (group_of cmp groups other)) e)
        unchanged false e = sym (ap (λ b. cond b (group_of cmp groups key) (group_of cmp groups other)) e)

  pub have_some_with : (group : List (ℕ × V)) → HaveSome groups → 0 < length group → HaveSome (with_pair cmp groups key group)
  have_some_with group some more =
      let IsSome : K × List (ℕ × V) → Type 0 = λ pair. 0 < length pair.1 in
      All-append IsSome (filter (is_below cmp key) groups) ((key, group) ∷ filter (is_above cmp key) groups) (All-filter (is_below cmp key) IsSome groups some)
      (All-cons IsSome (key, group) (filter (is_above cmp key) groups) more (All-filter (is_above cmp key) IsSome groups some))

  pub have_some_without : HaveSome groups → HaveSome (without_key cmp groups key)
  have_some_without some = All-filter (λ pair. not (has_key cmp key pair)) (λ pair. 0 < length pair.1) groups some

module _ {K V : Type 0} (cmp : K → K → Ordering) (groups inside : List (K × List (ℕ × V))) (key : K) (same : inside ≡ groups) where
  -- what a look-up finds is the key's group
  pub found : (group : List (ℕ × V)) → Some group ≡ value_at cmp inside key → group ≡ group_of cmp groups key
  found group is = ap (λ o. unwrap_or o []) is ∙ ap (λ l. group_of cmp l key) same

  pub not_found : None ≡ value_at cmp inside key → [] ≡ group_of cmp groups key
  not_found is = ap (λ (o : Option (List (ℕ × V))). unwrap_or o []) is ∙ ap (λ l. group_of cmp l key) same

-- a list that a pair was put in isn't empty
pub some_with : {V : Type 0} (pairs : List (ℕ × V)) (place : ℕ) (value : V) → 0 < length (with_pair nat_cmp pairs place value)
some_with pairs place value = rw length-append (omega arith)

pub some_left : {V : Type 0} (pairs : List (ℕ × V)) → (length pairs == 0) ≡ false → 0 < length pairs
some_left [] e = absurd (false≢true (sym e))
some_left (pair ∷ pairs) e = omega arith

pub none_left : {V : Type 0} (pairs : List (ℕ × V)) → (length pairs == 0) ≡ true → pairs ≡ []
none_left [] e = refl
none_left (pair ∷ pairs) e = absurd (omega (arith, eqb-true (length (pair ∷ pairs)) 0 e))

-- the pairs behind a place are those of the greater keys
pub above_is_behind : {V : Type 0} (pairs : List (ℕ × V)) (place : ℕ) → pairs_above nat_cmp pairs place ≡ pairs_behind pairs (Some place)
above_is_behind pairs place = filter_agree (is_above nat_cmp place) (λ pair. is_behind (Some place) pair.0) (λ pair. search rules) pairs

pub all_behind : {V : Type 0} (pairs : List (ℕ × V)) → pairs ≡ pairs_behind pairs None
all_behind [] = refl
all_behind (pair ∷ pairs) = ap (λ l. pair ∷ l) (all_behind pairs)
