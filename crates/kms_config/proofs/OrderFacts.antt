-- Credentials in byte order of their ids.
use Rattle.std.proofs.Common.{◌≡◌, ◌⊎◌, inl, inr, ◌↔◌, ℕ, zero, suc, Bool, true, false, ◌||◌, List, [], ◌∷◌, Less, Equal, Greater, nat_cmp, refl, sym, ap, ap₂, ◌∙◌, subst, arith}
use Rattle.std.specs.Prelude.{map}
use Rattle.std.specs.Cmp.Lexicographic.{slice_cmp}
use Rattle.std.specs.List.{AllByRecursion, Contains, fold}
use Rattle.std.specs.List.Sorted.{IsStrictlySortedBy}
use Rattle.std.specs.Ordering.{is_lt, is_eq, ordering_reverse}
use Rattle.std.specs.declared.cmp.Ordering.{Ordering}
use Rattle.std.specs.Str.{bytes_eq}
use Rattle.std.proofs.lemmas.Cmp.{nat_list_cmp_total, tied_itself}
use Rattle.std.proofs.lemmas.Map.Text.{is_eq-slice_cmp}
use Rattle.std.proofs.lemmas.Slice.Eq.{bytes_eq-Decides}
use Rattle.sigv4_check.specs.Credentials.{has_id, placed}
use Rattle.sigv4_check.specs.SignedNames.{is_before}
use Rattle.sigv4_check.specs.declared.credentials.Credential.{Credential}
use Rattle.kms_config.specs.Grammar.{AreInOrder}

-- ---- elements

pub head_or_tail : {A : Type 0} (x y : A) (xs : List A) → Contains (x ∷ xs) y → (x ≡ y) ⊎ Contains xs y
head_or_tail x y xs (zero, within, is) = inl is
head_or_tail x y xs (suc k, within, is) = inr (k, omega arith, is)

pub in_head : {A : Type 0} (x y : A) (xs : List A) → x ≡ y → Contains (x ∷ xs) y
in_head x y xs e = (zero, omega arith, e)

pub in_tail : {A : Type 0} (x y : A) (xs : List A) → Contains xs y → Contains (x ∷ xs) y
in_tail x y xs (k, within, is) = (suc k, omega arith, is)

pub in_none : {A : Type 0} (y : A) → ¬ (Contains [] y)
in_none y (k, within, is) = omega arith

-- ---- one more

or_swap : (a b c : Bool) → (a || (b || c)) ≡ (b || (a || c))
or_swap true true c = refl
or_swap true false c = refl
or_swap false b c = refl

shows_by : (credential other : Credential) (creds : List Credential) (id : List ℕ) (b : Bool) → is_before credential.id other.id ≡ b
    → has_id id (placed credential creds) ≡ (bytes_eq credential.id id || has_id id creds)
    → has_id id (placed credential (other ∷ creds)) ≡ (bytes_eq credential.id id || has_id id (other ∷ creds))
shows_by credential other creds id true is h = rw is refl
shows_by credential other creds id false is h = rw is (ap (λ (t : Bool). bytes_eq other.id id || t) h ∙ or_swap (bytes_eq other.id id) (bytes_eq credential.id id) (has_id id creds))

pub placed_shows : (credential : Credential) (creds : List Credential) (id : List ℕ) → has_id id (placed credential creds) ≡ (bytes_eq credential.id id || has_id id creds)
placed_shows credential [] id = refl
placed_shows credential (other ∷ creds) id = shows_by credential other creds id (is_before credential.id other.id) refl (placed_shows credential creds id)

module _ (credential one : Credential) where
  has_by : (other : Credential) (creds : List Credential) (b : Bool) → is_before credential.id other.id ≡ b → (Contains (placed credential creds) one → (credential ≡ one) ⊎ Contains creds one)
      → Contains (placed credential (other ∷ creds)) one → (credential ≡ one) ⊎ Contains (other ∷ creds) one
  has_by other creds true is rest = rw is (λ has. head_or_tail credential one (other ∷ creds) has)
  has_by other creds false is rest = rw is (λ has. by_part (head_or_tail other one (placed credential creds) has))
    where
      by_rest : (credential ≡ one) ⊎ Contains creds one → (credential ≡ one) ⊎ Contains (other ∷ creds) one
      by_rest (inl e) = inl e
      by_rest (inr has) = inr (in_tail other one creds has)

      by_part : (other ≡ one) ⊎ Contains (placed credential creds) one → (credential ≡ one) ⊎ Contains (other ∷ creds) one
      by_part (inl e) = inr (in_head other one creds e)
      by_part (inr has) = by_rest (rest has)

  placed_has : (creds : List Credential) → Contains (placed credential creds) one → (credential ≡ one) ⊎ Contains creds one
  placed_has [] has = head_or_tail credential one [] has
  placed_has (other ∷ creds) has = has_by other creds (is_before credential.id other.id) refl (placed_has creds) has

  keeps_by : (other : Credential) (creds : List Credential) (b : Bool) → is_before credential.id other.id ≡ b → ((credential ≡ one) ⊎ Contains creds one → Contains (placed credential creds) one)
      → (credential ≡ one) ⊎ Contains (other ∷ creds) one → Contains (placed credential (other ∷ creds)) one
  keeps_by other creds true is rest (inl e) = rw is (in_head credential one (other ∷ creds) e)
  keeps_by other creds true is rest (inr has) = rw is (in_tail credential one (other ∷ creds) has)
  keeps_by other creds false is rest (inl e) = rw is (in_tail other one (placed credential creds) (rest (inl e)))
  keeps_by other creds false is rest (inr has) = rw is (by_part (head_or_tail other one creds has))
    where
      by_part : (other ≡ one) ⊎ Contains creds one → Contains (other ∷ placed credential creds) one
      by_part (inl e) = in_head other one (placed credential creds) e
      by_part (inr has) = in_tail other one (placed credential creds) (rest (inr has))

  placed_keeps : (creds : List Credential) → (credential ≡ one) ⊎ Contains creds one → Contains (placed credential creds) one
  placed_keeps [] (inl e) = in_head credential one [] e
  placed_keeps [] (inr has) = in_tail credential one [] has
  placed_keeps (other ∷ creds) has = keeps_by other creds (is_before credential.id other.id) refl (placed_keeps creds) has

abbrev pub put : List Credential → Credential → List Credential
put creds credential = placed credential creds

-- all of them, one after the other
module _ (one : Credential) where
  all_has : (listed had : List Credential) → Contains (fold put had listed) one → Contains had one ⊎ Contains listed one
  all_has [] had has = inl has
  all_has (credential ∷ listed) had has = by_rest (all_has listed (placed credential had) has)
    where
      by_placed : (credential ≡ one) ⊎ Contains had one → Contains had one ⊎ Contains (credential ∷ listed) one
      by_placed (inl e) = inr (in_head credential one listed e)
      by_placed (inr now) = inl now

      by_rest : Contains (placed credential had) one ⊎ Contains listed one → Contains had one ⊎ Contains (credential ∷ listed) one
      by_rest (inl now) = by_placed (placed_has credential one had now)
      by_rest (inr rest) = inr (in_tail credential one listed rest)

  all_keep : (listed had : List Credential) → Contains had one ⊎ Contains listed one → Contains (fold put had listed) one
  all_keep [] had (inl has) = has
  all_keep [] had (inr none) = absurd (in_none one none)
  all_keep (credential ∷ listed) had (inl has) = all_keep listed (placed credential had) (inl (placed_keeps credential one had (inr has)))
  all_keep (credential ∷ listed) had (inr has) = all_keep listed (placed credential had) (by_part (head_or_tail credential one listed has))
    where
      by_part : (credential ≡ one) ⊎ Contains listed one → Contains (placed credential had) one ⊎ Contains listed one
      by_part (inl e) = inl (placed_keeps credential one had (inl e))
      by_part (inr rest) = inr rest

  pub same_all : (listed : List Credential) → Contains listed one ↔ Contains (fold put [] listed) one
  same_all listed = (λ has. all_keep listed [] (inr has), λ has. by_part (all_has listed [] has))
    where
      by_part : Contains [] one ⊎ Contains listed one → Contains listed one
      by_part (inl none) = absurd (in_none one none)
      by_part (inr has) = has

-- ---- in order

abbrev ids : List Credential → List (List ℕ)
ids creds = map (λ (credential : Credential). credential.id) creds

abbrev Below : List ℕ → List ℕ → Type 0
Below id other = slice_cmp nat_cmp id other ≡ Less

below_each : (id other : List ℕ) (names : List (List ℕ)) → Below id other → AllByRecursion (Below other) names → AllByRecursion (Below id) names
below_each id other [] is all = tt
below_each id other (name ∷ names) is all = (nat_list_cmp_total.trans id other name is all.0, below_each id other names is all.1)

less_is : (o : Ordering) → is_lt o ≡ true → o ≡ Less
less_is Less e = refl
less_is Equal e = cc
less_is Greater e = cc

other_way : (o p : Ordering) → o ≡ ordering_reverse p → is_lt o ≡ false → (o ≡ Equal) ⊎ (p ≡ Less)
other_way Less p e not_less = cc
other_way Equal p e not_less = inl refl
other_way Greater Less e not_less = inr refl
other_way Greater Equal e not_less = cc
other_way Greater Greater e not_less = cc

pub equal_texts : (a b : List ℕ) → slice_cmp nat_cmp a b ≡ Equal → a ≡ b
equal_texts a b e = (bytes_eq-Decides a b).0 (sym (is_eq-slice_cmp a b) ∙ ap is_eq e)

below_placed : (P : List ℕ → Type 0) (credential : Credential) (creds : List Credential) → P credential.id → AllByRecursion P (ids creds) → AllByRecursion P (ids (placed credential creds))
below_placed P credential [] is all = (is, tt)
below_placed P credential (other ∷ creds) is all = by_test (is_before credential.id other.id) refl (below_placed P credential creds is all.1)
  where
    by_test : (b : Bool) → is_before credential.id other.id ≡ b → AllByRecursion P (ids (placed credential creds)) → AllByRecursion P (ids (placed credential (other ∷ creds)))
    by_test true e rest = rw e (is, all)
    by_test false e rest = rw e (all.0, rest)

or_left : (a b : Bool) → (a || b) ≡ false → a ≡ false
or_left true b h = h
or_left false b h = refl

or_right : (a b : Bool) → (a || b) ≡ false → b ≡ false
or_right true b h = cc
or_right false b h = h

pub placed_order : (credential : Credential) (creds : List Credential) → has_id credential.id creds ≡ false → AreInOrder creds → AreInOrder (placed credential creds)
unfolding IsStrictlySortedBy
placed_order credential [] new order = (tt, tt)
placed_order credential (other ∷ creds) new order =
    by_test (is_before credential.id other.id) refl (placed_order credential creds (or_right (bytes_eq other.id credential.id) (has_id credential.id creds) new) order.1)
  where
    behind : (slice_cmp nat_cmp credential.id other.id ≡ Equal) ⊎ Below other.id credential.id → Below other.id credential.id
    behind (inl same) =
        let apart = or_left (bytes_eq other.id credential.id) (has_id credential.id creds) new in
        let bad : true ≡ false = sym ((bytes_eq-Decides other.id credential.id).1 (sym (equal_texts credential.id other.id same))) ∙ apart in
        cc
    behind (inr less) = less

    by_test : (b : Bool) → is_before credential.id other.id ≡ b → AreInOrder (placed credential creds) → AreInOrder (placed credential (other ∷ creds))
    by_test true e rest =
        let first = less_is (slice_cmp nat_cmp credential.id other.id) e in
        rw e ((first, below_each credential.id other.id (ids creds) first order.0), order)
    by_test false e rest =
        let less = behind (other_way (slice_cmp nat_cmp credential.id other.id) (slice_cmp nat_cmp other.id credential.id) (nat_list_cmp_total.antisymm credential.id other.id) e) in
        rw e (below_placed (Below other.id) credential creds less order.0, rest)

-- ---- lists in order that have the same elements

below_element : (id : List ℕ) (one : Credential) (creds : List Credential) → AllByRecursion (Below id) (ids creds) → Contains creds one → Below id one.id
below_element id one [] all has = absurd (in_none one has)
below_element id one (credential ∷ creds) all has = by_part (below_element id one creds all.1) (head_or_tail credential one creds has)
  where
    by_part : (Contains creds one → Below id one.id) → (credential ≡ one) ⊎ Contains creds one → Below id one.id
    by_part others (inl e) = subst (λ (c : Credential). Below id c.id) e all.0
    by_part others (inr rest) = others rest

not_below_itself : (id other : List ℕ) → other ≡ id → ¬ (Below id other)
not_below_itself id other same below = let bad : Less ≡ Equal = sym below ∙ ap (λ n. slice_cmp nat_cmp id n) same ∙ tied_itself nat_list_cmp_total id in cc

not_both_below : (id other : List ℕ) → Below id other → ¬ (Below other id)
not_both_below id other below above = not_below_itself id id refl (nat_list_cmp_total.trans id other id below above)

pub one_order : (xs ys : List Credential) → AreInOrder xs → AreInOrder ys → ((one : Credential) → Contains xs one ↔ Contains ys one) → xs ≡ ys
unfolding IsStrictlySortedBy
one_order [] [] xorder yorder same = refl
one_order [] (y ∷ ys) xorder yorder same = absurd (in_none y ((same y).1 (in_head y y ys refl)))
one_order (x ∷ xs) [] xorder yorder same = absurd (in_none x ((same x).0 (in_head x x xs refl)))
one_order (x ∷ xs) (y ∷ ys) xorder yorder same = ap₂ (λ (c : Credential) cs. c ∷ cs) heads (one_order xs ys xorder.1 yorder.1 (λ one. (forth one, back one)))
  where
    by_both : (y ≡ x) ⊎ Contains ys x → (x ≡ y) ⊎ Contains xs y → x ≡ y
    by_both (inl e) other = sym e
    by_both (inr behind) (inl e) = e
    by_both (inr behind) (inr below) = absurd (not_both_below y.id x.id (below_element y.id x ys yorder.0 behind) (below_element x.id y xs xorder.0 below))

    heads : x ≡ y
    heads = by_both (head_or_tail y x ys ((same x).0 (in_head x x xs refl))) (head_or_tail x y xs ((same y).1 (in_head y y ys refl)))

    forth_by : (one : Credential) → Contains xs one → (y ≡ one) ⊎ Contains ys one → Contains ys one
    forth_by one has (inl e) = absurd (not_below_itself x.id one.id (ap (λ (c : Credential). c.id) (sym e ∙ sym heads)) (below_element x.id one xs xorder.0 has))
    forth_by one has (inr rest) = rest

    forth : (one : Credential) → Contains xs one → Contains ys one
    forth one has = forth_by one has (head_or_tail y one ys ((same one).0 (in_tail x one xs has)))

    back_by : (one : Credential) → Contains ys one → (x ≡ one) ⊎ Contains xs one → Contains xs one
    back_by one has (inl e) = absurd (not_below_itself y.id one.id (ap (λ (c : Credential). c.id) (sym e ∙ heads)) (below_element y.id one ys yorder.0 has))
    back_by one has (inr rest) = rest

    back : (one : Credential) → Contains ys one → Contains xs one
    back one has = back_by one has (head_or_tail x one xs ((same one).1 (in_tail y one ys has)))
