-- The lists of an account, as they are gone through.
use Rattle.std.proofs.Common.{◌≡◌, ℕ, zero, suc, ◌+◌, ◌-◌, ◌<◌, ◌≤◌, max, Bool, true, false, ◌&&◌, cond, List, [], ◌∷◌, length, get_or, drop, Option, Some, None, refl, sym, ap, ap₂, ◌∙◌, arith}
use Rattle.std.specs.Prelude.{nat_lt, find, filter, map, option_map, unwrap_or, slice_get, AllPairs}
use Rattle.std.proofs.lemmas.Bool.Decides.{nat_tests}
use Rattle.std.proofs.lemmas.List.Kept.{AllPairs-filter}
use Rattle.kms_names.specs.Place.{is_behind}
use Rattle.kms_names.specs.declared.principals.Principal.{Principal}
use Rattle.kms_names.proofs.Behind.{find_in_filter}
use Rattle.key_states.specs.declared.versions.Version.{Version}
use Rattle.alias_map.specs.declared.rows.AliasRow.{AliasRow}
use Rattle.alias_map.specs.Aliases.{AreAliases, names_key, row_of_key}
use Rattle.grant_table.specs.declared.rows.GrantRow.{GrantRow}
use Rattle.grant_table.specs.Grants.{AreGrants, is_of_key, has_retiring, grant_of_key, grant_retirable}
use Rattle.account_lists.specs.declared.listings.Numbered.{Numbered}
use Rattle.key_states.specs.declared.rows.KeyRow.{KeyRow}
use Rattle.kms_json.specs.declared.replies.Reply.TheVariants as reply
use Rattle.kms_json.specs.declared.replies.lists.Rotation.{Rotation}
use Rattle.account_lists.specs.Pages.{Part, part_of}
use Rattle.account_lists.specs.Lists.{numbered_from, rotations_of, shown_rotation, rotation_page}

-- ---- grants

pub kept_rise : (test : GrantRow → Bool) (rows : List GrantRow) → AreGrants rows → AllPairs (λ (p q : GrantRow). p.born < q.born) (filter test rows)
kept_rise test rows are = AllPairs-filter (λ (p q : GrantRow). p.born < q.born) test rows are.1

turned : (a b : Bool) → (a && b) ≡ (b && a)
turned true true = refl
turned true false = refl
turned false true = refl
turned false false = refl

find_alike : {X : Type 0} (test other : X → Bool) → ((x : X) → test x ≡ other x) → (xs : List X) → find test xs ≡ find other xs
find_alike test other same [] = refl
find_alike {X = X} test other same (x ∷ xs) = ap (λ (b : Bool). cond b (Some x) (find test xs)) (same x) ∙ ap (λ (o : Option X). cond (other x) (Some x) o) (find_alike test other same xs)

first_of : (test : GrantRow → Bool) (rows : List GrantRow) (after : Option ℕ) → find (λ (row : GrantRow). test row && is_behind after row.born) rows ≡ find (λ (row : GrantRow). is_behind after row.born) (filter test rows)
first_of test rows after =
    find_alike (λ (row : GrantRow). test row && is_behind after row.born) (λ (row : GrantRow). is_behind after row.born && test row) (λ row. turned (test row) (is_behind after row.born)) rows
    ∙ sym (find_in_filter test (λ (row : GrantRow). is_behind after row.born) rows)

pub first_of_key : (key : List ℕ) (rows : List GrantRow) (after : Option ℕ) → grant_of_key rows key after ≡ find (λ (row : GrantRow). is_behind after row.born) (filter (is_of_key key) rows)
first_of_key key rows after = first_of (is_of_key key) rows after

pub first_retirable : (retiring : Principal) (rows : List GrantRow) (after : Option ℕ) → grant_retirable rows retiring after ≡ find (λ (row : GrantRow). is_behind after row.born) (filter (has_retiring retiring) rows)
first_retirable retiring rows after = first_of (has_retiring retiring) rows after

-- ---- aliases

pub kept_aliases_rise : (test : AliasRow → Bool) (rows : List AliasRow) → AreAliases rows → AllPairs (λ (p q : AliasRow). p.born < q.born) (filter test rows)
kept_aliases_rise test rows are = AllPairs-filter (λ (p q : AliasRow). p.born < q.born) test rows are.1

pub first_alias_of_key : (key : List ℕ) (rows : List AliasRow) (after : Option ℕ) → row_of_key rows key after ≡ find (λ (row : AliasRow). is_behind after row.born) (filter (names_key key) rows)
first_alias_of_key key rows after =
    find_alike (λ (row : AliasRow). names_key key row && is_behind after row.born) (λ (row : AliasRow). is_behind after row.born && names_key key row) (λ row. turned (names_key key row) (is_behind after row.born)) rows
    ∙ sym (find_in_filter (names_key key) (λ (row : AliasRow). is_behind after row.born) rows)

-- ---- rotations

count : (n : ℕ) (versions : List Version) → length (numbered_from n versions) ≡ length versions
count n [] = refl
count n (version ∷ versions) = ap suc (count (suc n) versions)

number_at : (n : ℕ) (versions : List Version) (k : ℕ) (d : Numbered) → k < length versions → (get_or (numbered_from n versions) k d).number ≡ n + k
number_at n [] k d lt = absurd (omega (arith, lt))
number_at n (version ∷ versions) zero d lt = omega arith
number_at n (version ∷ versions) (suc k) d lt = let later = number_at (suc n) versions k d (omega (arith, lt)) in omega (arith, later)

pub numbers_rise : (n : ℕ) (versions : List Version) → AllPairs (λ (p q : Numbered). p.number < q.number) (numbered_from n versions)
numbers_rise n versions i j d lt len =
    let whole = count n versions in
    let first = number_at n versions i d (omega (arith, lt, len, whole)) in
    let second = number_at n versions j d (omega (arith, len, whole)) in
    omega (arith, lt, first, second)

abbrev at_number : ℕ → Version → Numbered
at_number number version = record { number = number; version = version }

behind_number : (n m : ℕ) (versions : List Version) → n ≤ m + 1 → find (λ (row : Numbered). nat_lt m row.number) (numbered_from n versions) ≡ option_map (at_number (m + 1)) (slice_get versions (m + 1 - n))
behind_number n m [] le = refl
behind_number n m (version ∷ versions) le = by_test (nat_lt m n) refl (behind_number (suc n) m versions)
  where
    by_test : (b : Bool) → nat_lt m n ≡ b
        → (suc n ≤ m + 1 → find (λ (row : Numbered). nat_lt m row.number) (numbered_from (suc n) versions) ≡ option_map (at_number (m + 1)) (slice_get versions (m + 1 - suc n)))
        → cond b (Some (at_number n version)) (find (λ (row : Numbered). nat_lt m row.number) (numbered_from (suc n) versions)) ≡ option_map (at_number (m + 1)) (slice_get (version ∷ versions) (m + 1 - n))
    by_test true test later =
        let is : n ≡ m + 1 = grind (arith, nat_tests, test, le) in
        let none : m + 1 - n ≡ 0 = omega (arith, is) in
        ap (λ (i : ℕ). Some (at_number i version)) is ∙ ap (λ (i : ℕ). option_map (at_number (m + 1)) (slice_get (version ∷ versions) i)) (sym none)
    by_test false test later =
        let below : n ≤ m = grind (arith, nat_tests, test) in
        let one_less : m + 1 - n ≡ suc (m + 1 - suc n) = omega (arith, below) in
        later (omega (arith, below)) ∙ ap (λ (i : ℕ). option_map (at_number (m + 1)) (slice_get (version ∷ versions) i)) (sym one_less)

-- numbers of rotations are 2 or more
same_from_two : (after : Option ℕ) (n : ℕ) → 2 ≤ n → is_behind after n ≡ nat_lt (max (unwrap_or after 1) 1) n
same_from_two None n two = grind (arith, nat_tests, two)
same_from_two (Some place) n two = grind (arith, nat_tests, two)

find_from_two : (after : Option ℕ) (n : ℕ) (versions : List Version) → 2 ≤ n
    → find (λ (row : Numbered). is_behind after row.number) (numbered_from n versions) ≡ find (λ (row : Numbered). nat_lt (max (unwrap_or after 1) 1) row.number) (numbered_from n versions)
find_from_two after n [] two = refl
find_from_two after n (version ∷ versions) two =
    ap (λ (b : Bool). cond b (Some (at_number n version)) (find (λ (row : Numbered). is_behind after row.number) (numbered_from (suc n) versions))) (same_from_two after n two)
    ∙ ap (λ (o : Option Numbered). cond (nat_lt (max (unwrap_or after 1) 1) n) (Some (at_number n version)) o) (find_from_two after (suc n) versions (omega (arith, two)))

without_first : (versions : List Version) (m : ℕ) → 1 ≤ m → slice_get (drop 1 versions) (m + 1 - 2) ≡ slice_get versions m
without_first [] m some = refl
without_first (version ∷ versions) zero some = absurd (omega (arith, some))
without_first (version ∷ versions) (suc m) some = ap (slice_get versions) (one_less m)
  where
    one_less : (m : ℕ) → suc m + 1 - 2 ≡ m
    one_less m = omega arith

pub rotation_behind : (after : Option ℕ) (versions : List Version)
    → find (λ (row : Numbered). is_behind after row.number) (numbered_from 2 (drop 1 versions))
    ≡ option_map (λ (version : Version). record { number = max (unwrap_or after 1) 1 + 1; version = version }) (slice_get versions (max (unwrap_or after 1) 1))
rotation_behind after versions =
    let m = max (unwrap_or after 1) 1 in
    find_from_two after 2 (drop 1 versions) (omega arith)
    ∙ behind_number 2 m (drop 1 versions) (omega arith)
    ∙ ap (option_map (at_number (m + 1))) (without_first versions m (omega arith))

-- ---- all of them are listed

pub every : {X : Type 0} (rows : List X) → filter (λ (row : X). true) rows ≡ rows
every [] = refl
every {X} (row ∷ rows) = ap (λ (l : List X). row ∷ l) (every rows)

pub rotations_shown : (row lent : KeyRow) (limit : ℕ) (after : Option ℕ) (items : List Rotation) (next : Option ℕ) → row ≡ lent
    → items ≡ map shown_rotation (part_of (λ (numbered : Numbered). numbered.number) (filter (λ (numbered : Numbered). true) (rotations_of row)) limit after).rows
    → next ≡ (part_of (λ (numbered : Numbered). numbered.number) (filter (λ (numbered : Numbered). true) (rotations_of row)) limit after).next
    → reply.Rotations (record { key = row.key; rotations = items; next = next }) ≡ rotation_page lent (part_of (λ (numbered : Numbered). numbered.number) (rotations_of lent) limit after)
rotations_shown row lent limit after items next same are is =
    let part : List Numbered → Part Numbered = λ rows. part_of (λ (numbered : Numbered). numbered.number) rows limit after in
    let shown = are ∙ ap (λ (rows : List Numbered). map shown_rotation (part rows).rows) (every (rotations_of row)) in
    let behind = is ∙ ap (λ (rows : List Numbered). (part rows).next) (every (rotations_of row)) in
    ap₂ (λ (i : List Rotation) (n : Option ℕ). reply.Rotations (record { key = row.key; rotations = i; next = n })) shown behind
    ∙ ap (λ (r : KeyRow). rotation_page r (part (rotations_of r))) same
