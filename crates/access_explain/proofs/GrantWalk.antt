-- The grants of a key, gone through one after another in order of making.
use Rattle.std.proofs.Common.{◌≡◌, ℕ, suc, ◌<◌, ◌≤◌, Bool, true, false, ◌&&◌, cond, List, [], ◌∷◌, ◌++◌, length, get_or, Option, None, Some, refl, sym, ap, ◌∙◌, subst, append_assoc, arith, ⊎_elim}
use Rattle.std.specs.Prelude.{nat_lt, find, filter, All, AllPairs, Any, ◌↔◌}
use Rattle.std.proofs.lemmas.Bool.Decides.{nat_tests}
use Rattle.std.proofs.lemmas.List.Kept.{AllPairs-filter}
use Rattle.kms_names.specs.Place.{is_behind}
use Rattle.kms_names.proofs.Behind.{filter_all, find_in_filter}
use Rattle.kms_names.proofs.Decisions.{any_here, any_there, any_of}
use Rattle.grant_table.specs.declared.rows.GrantRow.{GrantRow}
use Rattle.grant_table.specs.Grants.{is_of_key, grant_of_key}
use Rattle.access_explain.specs.Runs.{OneByOne}
use Rattle.access_explain.proofs.RunFacts.{one_more}

abbrev Rise : List GrantRow → Type 0
Rise rows = AllPairs (λ (p q : GrantRow). p.born < q.born) rows

abbrev behind : Option ℕ → GrantRow → Bool
behind at row = is_behind at row.born

-- those that were made behind a place
abbrev pub from : Option ℕ → List GrantRow → List GrantRow
from at rows = filter (behind at) rows

abbrev pub own : List ℕ → List GrantRow → List GrantRow
own key rows = filter (is_of_key key) rows

-- ---- the first behind a place, and those behind it

abbrev Above : GrantRow → List GrantRow → Type 0
Above x rows = All (λ (y : GrantRow). x.born < y.born) rows

head_below : (x : GrantRow) (rows : List GrantRow) → Rise (x ∷ rows) → Above x rows
head_below x rows rise = λ k d lt. rise 0 (suc k) d (omega arith) (omega (arith, lt))

tail_rises : (x : GrantRow) (rows : List GrantRow) → Rise (x ∷ rows) → Rise rows
tail_rises x rows rise = λ i j d lt len. rise (suc i) (suc j) d (omega (arith, lt)) (omega (arith, len))

lower : (at : Option ℕ) (b c : ℕ) → is_behind at b ≡ true → b < c → is_behind at c ≡ true
lower None b c is lt = refl
lower (Some place) b c is lt = grind (arith, nat_tests, is, lt)

not_below : (b c : ℕ) → c ≤ b → nat_lt b c ≡ false
not_below b c le = grind (arith, nat_tests, le)

is_above : (b c : ℕ) → b < c → nat_lt b c ≡ true
is_above b c lt = grind (arith, nat_tests, lt)

all_from : (at : Option ℕ) (x : GrantRow) (rows : List GrantRow) → Above x rows → behind at x ≡ true → from at rows ≡ rows
all_from at x rows above is = filter_all (behind at) rows (λ k d lt. lower at x.born (get_or rows k d).born is (above k d lt))

all_behind : (x : GrantRow) (rows : List GrantRow) → Above x rows → from (Some x.born) rows ≡ rows
all_behind x rows above = filter_all (behind (Some x.born)) rows (λ k d lt. is_above x.born (get_or rows k d).born (above k d lt))

passed_over : (b : Bool) (x : GrantRow) (rows : List GrantRow) → b ≡ false → cond b (x ∷ rows) rows ≡ rows
passed_over true x rows is = absurd (cc)
passed_over false x rows is = refl

found_above : (rows : List GrantRow) (at : Option ℕ) (x row : GrantRow) → Above x rows → find (behind at) rows ≡ Some row → x.born < row.born
found_above [] at x row above is = cc
found_above (y ∷ rows) at x row above is = by_test (behind at y) is (found_above rows at x row (λ k d lt. above (suc k) d (omega (arith, lt))))
  where
    by_test : (b : Bool) → cond b (Some y) (find (behind at) rows) ≡ Some row → (find (behind at) rows ≡ Some row → x.born < row.born) → x.born < row.born
    by_test true is later = subst (λ (z : GrantRow). x.born < z.born) (let same : y ≡ row = cc in same) (above 0 y (omega arith))
    by_test false is later = later is

one_on : (rows : List GrantRow) → Rise rows → (at : Option ℕ) (row : GrantRow) → find (behind at) rows ≡ Some row → from at rows ≡ row ∷ from (Some row.born) rows
one_on [] rise at row is = cc
one_on (x ∷ rows) rise at row is = by_test (behind at x) refl is (one_on rows (tail_rises x rows rise) at row)
  where
    above : Above x rows
    above = head_below x rows rise

    by_test : (b : Bool) → behind at x ≡ b → cond b (Some x) (find (behind at) rows) ≡ Some row → (find (behind at) rows ≡ Some row → from at rows ≡ row ∷ from (Some row.born) rows)
        → cond b (x ∷ from at rows) (from at rows) ≡ row ∷ from (Some row.born) (x ∷ rows)
    by_test true test is later =
        let same : x ≡ row = cc in
        let rest : from (Some x.born) (x ∷ rows) ≡ rows = passed_over (behind (Some x.born) x) x (from (Some x.born) rows) (not_below x.born x.born (omega arith)) ∙ all_behind x rows above in
        subst (λ (r : GrantRow). x ∷ from at rows ≡ r ∷ from (Some r.born) (x ∷ rows)) same (ap (λ ys. x ∷ ys) (all_from at x rows above test ∙ sym rest))
    by_test false test is later =
        let lt = found_above rows at x row above is in
        later is ∙ ap (λ ys. row ∷ ys) (sym (passed_over (behind (Some row.born) x) x (from (Some row.born) rows) (not_below row.born x.born (omega (arith, lt)))))

none_on : (rows : List GrantRow) (at : Option ℕ) → find (behind at) rows ≡ None → from at rows ≡ []
none_on [] at is = refl
none_on (x ∷ rows) at is = by_test (behind at x) is (none_on rows at)
  where
    by_test : (b : Bool) → cond b (Some x) (find (behind at) rows) ≡ None → (find (behind at) rows ≡ None → from at rows ≡ []) → cond b (x ∷ from at rows) (from at rows) ≡ []
    by_test true is later = cc
    by_test false is later = later is

-- ---- of a key

turned : (a b : Bool) → (a && b) ≡ (b && a)
turned true true = refl
turned true false = refl
turned false true = refl
turned false false = refl

find_alike : {X : Type 0} (test other : X → Bool) → ((x : X) → test x ≡ other x) → (xs : List X) → find test xs ≡ find other xs
find_alike test other same [] = refl
find_alike {X = X} test other same (x ∷ xs) = ap (λ (b : Bool). cond b (Some x) (find test xs)) (same x) ∙ ap (λ (o : Option X). cond (other x) (Some x) o) (find_alike test other same xs)

first_own : (key : List ℕ) (rows : List GrantRow) (at : Option ℕ) → grant_of_key rows key at ≡ find (behind at) (own key rows)
first_own key rows at =
    find_alike (λ (row : GrantRow). is_of_key key row && behind at row) (λ (row : GrantRow). behind at row && is_of_key key row) (λ row. turned (is_of_key key row) (behind at row)) rows
    ∙ sym (find_in_filter (is_of_key key) (behind at) rows)

module _ (key : List ℕ) (rows : List GrantRow) (rise : Rise rows) (at : Option ℕ) where
  pub on : (row : GrantRow) → grant_of_key rows key at ≡ Some row → from at (own key rows) ≡ row ∷ from (Some row.born) (own key rows)
  on row is = one_on (own key rows) (AllPairs-filter (λ (p q : GrantRow). p.born < q.born) (is_of_key key) rows rise) at row (sym (first_own key rows at) ∙ is)

  pub fewer : (row : GrantRow) → grant_of_key rows key at ≡ Some row → length (from (Some row.born) (own key rows)) < length (from at (own key rows))
  fewer row is = let e : length (from at (own key rows)) ≡ length (row ∷ from (Some row.born) (own key rows)) = ap length (on row is) in omega (arith, e)

pub ended : (key : List ℕ) (rows : List GrantRow) (at : Option ℕ) → grant_of_key rows key at ≡ None → from at (own key rows) ≡ []
ended key rows at is = none_on (own key rows) at (sym (first_own key rows at) ∙ is)

pub all_at_first : (key : List ℕ) (rows : List GrantRow) → from None (own key rows) ≡ own key rows
all_at_first key rows = filter_all (behind None) (own key rows) (λ k d lt. refl)

-- ---- with what is gathered of each

pub record Gone {Y : Type 0} (R : GrantRow → Y → Type 0) (rows : List GrantRow) (left : List GrantRow) (ys : List Y) : Type 0 where
  pub before : List GrantRow
  pub are : rows ≡ before ++ left
  pub each : OneByOne R before ys

pub gone_on : {Y : Type 0} (R : GrantRow → Y → Type 0) (rows left rest : List GrantRow) (ys zs : List Y) (row : GrantRow) (y : Y) → left ≡ row ∷ rest → zs ≡ ys ++ y ∷ [] → R row y → Gone R rows left ys → Gone R rows rest zs
gone_on R rows left rest ys zs row y is pushed related gone = record {
  before = gone.before ++ row ∷ [];
  are = gone.are ∙ ap (λ l. gone.before ++ l) is ∙ sym (append_assoc gone.before (row ∷ []) rest);
  each = subst (λ l. OneByOne R (gone.before ++ row ∷ []) l) (sym pushed) (one_more R gone.before ys row y gone.each related);
}

append_nil : {X : Type 0} (xs : List X) → xs ++ [] ≡ xs
append_nil [] = refl
append_nil (x ∷ xs) = ap (λ ys. x ∷ ys) (append_nil xs)

pub gone_all : {Y : Type 0} (R : GrantRow → Y → Type 0) (rows left : List GrantRow) (ys : List Y) → left ≡ [] → Gone R rows left ys → OneByOne R rows ys
gone_all R rows left ys is gone = subst (λ l. OneByOne R l ys) (sym (gone.are ∙ ap (λ l. gone.before ++ l) is ∙ append_nil gone.before)) gone.each

-- ---- one of them

pub found_one : (P : GrantRow → Type 0) (rows left rest : List GrantRow) (row : GrantRow) → left ≡ row ∷ rest → Any P rows ↔ Any P left → P row → Any P rows
found_one P rows left rest row is left_is p = left_is.1 (subst (Any P) (sym is) (any_here P row rest p))

pub passed_one : (P : GrantRow → Type 0) (rows left rest : List GrantRow) (row : GrantRow) → left ≡ row ∷ rest → Any P rows ↔ Any P left → ¬ (P row) → Any P rows ↔ Any P rest
passed_one P rows left rest row is left_is not = (
  λ any. ⊎_elim (λ p. absurd (not p)) (λ later. later) (any_of P row rest (subst (Any P) is (left_is.0 any))),
  λ any. left_is.1 (subst (Any P) (sym is) (any_there P row rest any)),
)

pub none_left : (P : GrantRow → Type 0) (rows left : List GrantRow) → left ≡ [] → Any P rows ↔ Any P left → ¬ (Any P rows)
none_left P rows left is left_is any = let at = subst (Any P) is (left_is.0 any) in omega (arith, at.2)
