-- The exchange that adds a pair keeps the rule.
use Rattle.std.proofs.Common.{◌≡◌, ℕ, ◌+◌, ◌<◌, ◌==◌, Bool, true, false, List, [], ◌∷◌, ◌++◌, length, refl, ap, sym, subst, arith, inl, inr, ⊎_elim, ◌∙◌, ◌≤◌, length-append, None}
use Rattle.std.proofs.lemmas.List.{append-nil}
use Rattle.std.proofs.lemmas.Bool.Decides.{nat_tests}
use mathlib.Core.List.{IsPrefix}
use Rattle.account_steps.specs.History.{Entry}
use prog.Atomic.{either}
use Rattle.logbook.specs.Pages.{Cell, cell, keeps, no_nib, step, Moves, Goes}
use Rattle.published_account.specs.Growing.{Pairs, IsKept, Adds, IsLongerOf}
use Rattle.published_account.proofs.Lists.{prefix_whole, prefix_self, prefix_shorter}

abbrev pub shown : Pairs → Pairs
shown log = []

abbrev pub moved : Pairs → Pairs → ℕ → Type 0
moved xs ys n = Unit {0}

pub adds_goes : (log v : Pairs) (e : Entry × ℕ) (old : ℕ) → length v ≡ old → IsPrefix v log
    → (b : Bool) → (length log == old) ≡ b
    → Goes IsKept shown moved 0 (v, (no_nib, None)) (λ n. either (n == old) (old + 1) n) (Adds (step 0 old (old + 1) e) (v, (no_nib, None))) ((length log, true) ∷ (0, true) ∷ []) log
adds_goes log v e old len pre true is =
    let here : length log ≡ old = grind (arith, nat_tests) in
    let same : v ≡ log = prefix_whole v log pre (omega arith) in
    let n : either (length log == old) (old + 1) (length log) ≡ length (log ++ e ∷ []) = rw is (omega (arith, length-append log (e ∷ []))) in (
      keeps,
      e ∷ [],
      None,
      tt,
      ap (λ (k : ℕ). (k, true) ∷ (0, true) ∷ []) n,
      inl (refl, refl),
      rw is (ap (λ w. w ++ e ∷ []) (sym same)),
    )
adds_goes log v e old len pre false is =
    let all : log ++ [] ≡ log = append-nil log in
    let n : either (length log == old) (old + 1) (length log) ≡ length (log ++ []) = rw is (ap length (sym all)) in (
      keeps,
      [],
      None,
      tt,
      ap (λ (k : ℕ). (k, true) ∷ (0, true) ∷ []) n,
      inl (refl, refl),
      rw is (ap length all),
    )

-- whatever the history is, the exchange adds the pair to all that was seen, or finds that the history is longer
pub adds_moves : (v : Pairs) (e : Entry × ℕ) (old : ℕ) → length v ≡ old
    → Moves IsKept shown moved 0 (v, (no_nib, None)) (λ n. either (n == old) (old + 1) n) (Adds (step 0 old (old + 1) e) (v, (no_nib, None)))
adds_moves v e old len cs log kept pre away =
    let P : List Cell → Type 0 = λ c. (0 < length c) × ((cell c 0).1 ≡ true) × Goes IsKept shown moved 0 (v, (no_nib, None)) (λ n. either (n == old) (old + 1) n) (Adds (step 0 old (old + 1) e) (v, (no_nib, None))) c log in
    subst P (sym kept) (omega arith, refl, adds_goes log v e old len pre (length log == old) refl)

pub longer_second : (xs ys zs : Pairs) → IsPrefix xs zs → IsPrefix ys zs → length xs < length ys → IsLongerOf xs ys ys
longer_second xs ys zs p q less = record { first = prefix_shorter xs ys zs p q (omega arith); second = prefix_self ys; one = inl (less, refl) }

pub longer_first : (xs ys zs : Pairs) → IsPrefix xs zs → IsPrefix ys zs → length ys ≤ length xs → IsLongerOf xs ys xs
longer_first xs ys zs p q le = record { first = prefix_self xs; second = prefix_shorter ys xs zs q p le; one = inr (le, refl) }

pub longer_whole : (xs ys zs : Pairs) → length xs ≤ length ys → IsLongerOf xs ys zs → zs ≡ ys
longer_whole xs ys zs le h = ⊎_elim (λ (t : (length xs < length ys) × (zs ≡ ys)). t.1) (λ (t : (length ys ≤ length xs) × (zs ≡ xs)). t.1 ∙ sym (prefix_whole ys xs (subst (IsPrefix ys) t.1 h.second) le)) h.one
