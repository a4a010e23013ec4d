-- A grant that was dropped stays away.
use Rattle.std.proofs.Common.{◌≡◌, ◌≢◌, ℕ, suc, ◌+◌, ◌<◌, Bool, true, false, not, cond, List, [], ◌∷◌, ◌++◌, length, take, drop, get_or, Some, None, refl, sym, ap, ◌∙◌, subst, append_assoc, arith, length-append}
use Rattle.std.specs.Prelude.{All, find, filter}
use Rattle.std.specs.Str.{bytes_eq}
use Rattle.std.proofs.lemmas.List.{take_at, drop_at}
use Rattle.std.proofs.lemmas.List.Elements.{All-push, All-filter, filter_passes}
use Rattle.std.proofs.lemmas.Slice.Eq.{bytes_eq-Decides}
use Rattle.key_states.specs.declared.rows.KeyRow.{KeyRow}
use Rattle.grant_table.specs.declared.rows.GrantRow.{GrantRow}
use Rattle.grant_table.specs.Grants.{has_id, is_of_any, grant_with}
use Rattle.account_rows.specs.declared.entries.Entry.{Entry}
use Rattle.account_rows.specs.declared.entries.What.{What}
use Rattle.account_rows.specs.declared.entries.What.TheVariants as what
use Rattle.account_rows.specs.Changes.{gone_keys}
use Rattle.account_rows.specs.GrantChanges.{grants_after, new_grant}
use Rattle.account_rows.specs.History.{replay, place_in_grant, IsMadeHere, IsGrantOf}
use Rattle.account_rows.proofs.GrantFacts.{grants-push}
use Rattle.account_rows.proofs.RowFacts.{length-push}
use Rattle.account_steps.specs.declared.facts.RealmFacts.{RealmFacts}
use Rattle.account_core.specs.Fitting.{IsHeld, no_entry, appended_to, fitted_to}
use Rattle.account_laws.specs.Laws.{DroppedGrantsStayAway}
use Rattle.account_steps.proofs.Done.{HoldsDropped}
use Rattle.account_laws.proofs.Histories.{Came, held_laws, came_last, came_fitting}

-- no grant has the id, which ends with a place of an entry before
record IsAway (grant : List ℕ) (n : ℕ) (grants : List GrantRow) : Type 0 where
  gone : All (λ (row : GrantRow). row.grant ≢ grant) grants
  told : place_in_grant grant < n

abbrev Differs : List ℕ → GrantRow → Type 0
Differs grant row = row.grant ≢ grant

still : (grant : List ℕ) (n : ℕ) (grants : List GrantRow) → IsAway grant n grants → IsAway grant (n + 1) grants
still grant n grants away = record { gone = away.gone; told = let t = away.told in omega (arith, t) }

stays : (grant : List ℕ) (n time : ℕ) (w : What) (keys : List KeyRow) (grants : List GrantRow) → IsMadeHere n w → IsAway grant n grants → IsAway grant (n + 1) (grants_after n time w keys grants)
stays grant n time (what.GrantAdd id key grantee retiring operations constraint name) keys grants here away =
    let other : id ≢ grant = λ same. let at : place_in_grant grant ≡ n = ap place_in_grant (sym same) ∙ here in let t = away.told in absurd (omega (arith, at, t)) in
    record {
      gone = All-push (Differs grant) grants (new_grant n time id key grantee retiring operations constraint name) away.gone other;
      told = let t = away.told in omega (arith, t);
    }
stays grant n time (what.GrantDrop id) keys grants here away = record {
  gone = All-filter (λ (row : GrantRow). not (has_id id row)) (Differs grant) grants away.gone;
  told = let t = away.told in omega (arith, t);
}
stays grant n time what.House keys grants here away = record {
  gone = All-filter (λ (row : GrantRow). not (is_of_any (gone_keys time keys) row)) (Differs grant) grants away.gone;
  told = let t = away.told in omega (arith, t);
}
stays grant n time _ keys grants here away = still grant n grants away

-- ---- where it is dropped

found_in : (P : GrantRow → Type 0) (test : GrantRow → Bool) (rows : List GrantRow) (row : GrantRow) → find test rows ≡ Some row → All P rows → P row
found_in P test [] row e all = cc
found_in P test (first ∷ rows) row e all = by_test (test first) e (found_in P test rows row)
  where
    by_test : (b : Bool) → cond b (Some first) (find test rows) ≡ Some row → (find test rows ≡ Some row → All P rows → P row) → P row
    by_test true e later = subst P (let same : first ≡ row = cc in same) (all 0 first (omega arith))
    by_test false e later = later e (λ k d lt. all (suc k) d (omega (arith, lt)))

passes_not : (id : List ℕ) (row : GrantRow) → not (has_id id row) ≡ true → row.grant ≢ id
passes_not id row e same = let is : bytes_eq row.grant id ≡ true = (bytes_eq-Decides row.grant id).1 same in let bad : not true ≡ true = ap not (sym is) ∙ e in cc

dropped_here : (grant : List ℕ) (n time : ℕ) (w : What) (keys : List KeyRow) (grants : List GrantRow) → w ≡ what.GrantDrop grant → HoldsDropped grants w → All (IsGrantOf n) grants
    → IsAway grant (n + 1) (grants_after n time w keys grants)
dropped_here grant n time w keys grants is holds all =
    let held : HoldsDropped grants (what.GrantDrop grant) = subst (HoldsDropped grants) is holds in
    let of = found_in (IsGrantOf n) (has_id held.0) grants held.1 held.2 all in
    let place : place_in_grant grant ≡ held.1.born = ap place_in_grant (sym held.3) ∙ of.named in
    subst (λ (v : What). IsAway grant (n + 1) (grants_after n time v keys grants)) (sym is)
    (record {
      gone = λ k d lt. passes_not grant (get_or (filter (λ (row : GrantRow). not (has_id grant row)) grants) k d) (filter_passes (λ (row : GrantRow). not (has_id grant row)) grants k d lt);
      told = let b = of.before in omega (arith, place, b);
    })

-- ---- along a history that an account holds

last_is : {X : Type 0} (xs ys : List X) (x y : X) → xs ++ x ∷ [] ≡ ys ++ y ∷ [] → (xs ≡ ys) × (x ≡ y)
last_is {X} xs ys x y e =
    let same : length xs ≡ length ys = let n = ap length e in omega (arith, n, length-append xs (x ∷ []), length-append ys (y ∷ [])) in
    let front = sym (take_at xs (x ∷ []) (length xs) refl) ∙ ap (take (length xs)) e ∙ take_at ys (y ∷ []) (length xs) (sym same) in
    let back : x ∷ [] ≡ y ∷ [] = sym (drop_at xs (x ∷ []) (length xs) refl) ∙ ap (drop (length xs)) e ∙ drop_at ys (y ∷ []) (length xs) (sym same) in
    (front, cc)

snoc : {X : Type 0} (x : X) (xs : List X) → (ys : List X) × (y : X) × (x ∷ xs ≡ ys ++ y ∷ [])
snoc x [] = ([], x, refl)
snoc x (z ∷ xs) = let rest = snoc z xs in (x ∷ rest.0, rest.1, ap (λ l. x ∷ l) rest.2)

abbrev AwayAt : List ℕ → List Entry → Type 0
AwayAt grant history = IsAway grant (length history) (replay history).grants

with_one : (grant : List ℕ) (history : List Entry) (entry : Entry) → IsAway grant (length history + 1) (grants_after (length history) entry.time entry.what (replay history).keys (replay history).grants) → AwayAt grant (history ++ entry ∷ [])
with_one grant history entry away =
    subst (λ (n : ℕ). IsAway grant n (replay (history ++ entry ∷ [])).grants) (sym (length-push history entry))
    (subst (IsAway grant (length history + 1)) (sym (grants-push history entry)) away)

append_nothing : (xs : List Entry) → xs ++ [] ≡ xs
append_nothing [] = refl
append_nothing (x ∷ xs) = ap (λ (l : List Entry). x ∷ l) (append_nothing xs)

module _ (facts : RealmFacts) (grant : List ℕ) (history : List Entry) (entry : Entry) (is : entry.what ≡ what.GrantDrop grant) where
  -- the last entry is the one that drops the grant, or the grant is away before it
  away_after : (before : List Entry) (last : Entry) → IsHeld facts before → Came before last → ((more : List Entry) → before ≡ (history ++ entry ∷ []) ++ more → AwayAt grant before)
      → (more : List Entry) → before ++ last ∷ [] ≡ (history ++ entry ∷ []) ++ more → AwayAt grant (before ++ last ∷ [])
  away_after before last held came away [] e =
      let both = last_is before history last entry (e ∙ append_nothing (history ++ entry ∷ [])) in
      with_one grant before last
      (dropped_here grant (length before) last.time last.what (replay before).keys (replay before).grants (ap (λ (x : Entry). x.what) both.1 ∙ is) came.holds (held_laws facts before held).grants)
  away_after before last held came away (first ∷ more) e =
      let rest = snoc first more in
      let both = last_is before ((history ++ entry ∷ []) ++ rest.0) last rest.1 (e ∙ ap (λ (l : List Entry). (history ++ entry ∷ []) ++ l) rest.2 ∙ sym (append_assoc (history ++ entry ∷ []) rest.0 (rest.1 ∷ []))) in
      with_one grant before last (stays grant (length before) last.time last.what (replay before).keys (replay before).grants came.fits.made (away rest.0 both.0))

  away_at : (whole : List Entry) → IsHeld facts whole → (more : List Entry) → whole ≡ (history ++ entry ∷ []) ++ more → AwayAt grant whole
  away_at whole no_entry more e =
      let n = ap length e in
      absurd (omega (arith, n, length-append (history ++ entry ∷ []) more, length-append history (entry ∷ [])))
  away_at whole (appended_to {history = before} last held next) more e = away_after before last held (came_last facts before last held next) (away_at before held) more e
  away_at whole (fitted_to {history = before} last held fits) more e = away_after before last held (came_fitting facts before last fits) (away_at before held) more e

none_with : (grant : List ℕ) (grants : List GrantRow) → All (Differs grant) grants → grant_with grants grant ≡ None
none_with grant [] all = refl
none_with grant (row ∷ rows) all = by_test (has_id grant row) (bytes_eq-Decides row.grant grant).0 (none_with grant rows (λ k d lt. all (suc k) d (omega (arith, lt))))
  where
    by_test : (b : Bool) → (b ≡ true → row.grant ≡ grant) → grant_with rows grant ≡ None → cond b (Some row) (grant_with rows grant) ≡ None
    by_test true same later = absurd (all 0 row (omega arith) (same refl))
    by_test false same later = later

pub dropped_stays_away : DroppedGrantsStayAway
dropped_stays_away facts history more entry grant held is =
    none_with grant (replay ((history ++ entry ∷ []) ++ more)).grants (away_at facts grant history entry is ((history ++ entry ∷ []) ++ more) held more refl).gone
