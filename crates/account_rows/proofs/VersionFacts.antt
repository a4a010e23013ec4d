-- The versions of a key only grow, and its kind stays, as long as it is there.
use Rattle.std.proofs.Common.{◌≡◌, ℕ, ◌+◌, ◌<◌, ◌≤◌, List, [], ◌∷◌, ◌++◌, length, get_or, fold, Some, refl, sym, ◌∙◌, ap, subst, arith}
use Rattle.std.specs.Prelude.{All}
use Rattle.std.proofs.lemmas.List.Sums.{fold-append}
use Rattle.key_states.specs.declared.rows.KeyRow.{KeyRow}
use Rattle.account_rows.specs.declared.entries.Entry.{Entry}
use Rattle.account_rows.specs.declared.entries.What.{What}
use Rattle.account_rows.specs.declared.entries.What.TheVariants as what
use Rattle.account_rows.specs.History.{State, step, nothing_yet, replay, key_with, place_in, IsMadeHere, AreRows}
pub use Rattle.account_rows.specs.History.{AreMadeFrom}
use Rattle.account_rows.proofs.RowFacts.{Follows, IsNew, all_after, found_all, found_key, replay-entries, rows_after, no_rows}
use Rattle.account_rows.proofs.Lookups.{unique}

-- the rows of an id have a property
abbrev pub AllOf : (KeyRow → Type 0) → List ℕ → List KeyRow → Type 0
AllOf P id rows = All (λ (row : KeyRow). row.key ≡ id → P row) rows

-- the row that is found is the only one of its id
pub the_one : (P : KeyRow → Type 0) (n : ℕ) (rows : List KeyRow) (id : List ℕ) (row : KeyRow) → AreRows n rows → key_with rows id ≡ Some row → P row → AllOf P id rows
the_one P n rows id row are found p k d lt is =
    let there = unique n rows are id k d lt is in
    subst P (some_same row (get_or rows k d) (sym found ∙ there)) p
  where
    some_same : (a b : KeyRow) → Some a ≡ Some b → a ≡ b
    some_same a b e = cc

-- one that each entry leaves as it is
module _ (P : KeyRow → Type 0) (stays : (row new : KeyRow) → Follows row new → P row → P new) (id : List ℕ) where
  keeps : (row new : KeyRow) → Follows row new → (row.key ≡ id → P row) → new.key ≡ id → P new
  keeps row new follows has is = stays row new follows (has (sym follows.key ∙ is))

  new_at : (n time : ℕ) (w : What) → IsMadeHere n w → place_in id < n → IsNew (λ (row : KeyRow). row.key ≡ id → P row) n time w
  new_at n time (what.CreateKey key kind description policy tags) here before = λ is. absurd (omega (arith, ap place_in is, here, before))
  new_at n time _ here before = tt

  all_from : (state : State) (more : List Entry) → AreMadeFrom state.entries more → place_in id < state.entries → AllOf P id state.keys → AllOf P id (fold step state more).keys
  all_from state [] made before all = all
  all_from state (entry ∷ more) made before all =
      all_from (step state entry) more made.1 (omega (arith, before))
      (all_after (λ (row : KeyRow). row.key ≡ id → P row) keeps state.entries entry.time entry.what state.keys (new_at state.entries entry.time entry.what made.0 before) all)

made_behind : (n : ℕ) (history more : List Entry) → AreMadeFrom n (history ++ more) → AreMadeFrom (n + length history) more
made_behind n [] more made = subst (λ (m : ℕ). AreMadeFrom m more) (omega arith) made
made_behind n (entry ∷ history) more made = subst (λ (m : ℕ). AreMadeFrom m more) (omega arith) (made_behind (n + 1) history more made.1)

pub made_push : (n : ℕ) (history : List Entry) (entry : Entry) → AreMadeFrom n history → IsMadeHere (n + length history) entry.what → AreMadeFrom n (history ++ entry ∷ [])
made_push n [] entry made here = (subst (λ (m : ℕ). IsMadeHere m entry.what) (omega arith) here, tt)
made_push n (first ∷ history) entry made here = (made.0, made_push (n + 1) history entry made.1 (subst (λ (m : ℕ). IsMadeHere m entry.what) (omega arith) here))

made_front : (n : ℕ) (history more : List Entry) → AreMadeFrom n (history ++ more) → AreMadeFrom n history
made_front n [] more made = tt
made_front n (entry ∷ history) more made = (made.0, made_front (n + 1) history more made.1)

rows_from : (state : State) (more : List Entry) → AreMadeFrom state.entries more → AreRows state.entries state.keys → AreRows (state.entries + length more) (fold step state more).keys
rows_from state [] made are = subst (λ (n : ℕ). AreRows n state.keys) (omega arith) are
rows_from state (entry ∷ more) made are =
    subst (λ (n : ℕ). AreRows n (fold step state (entry ∷ more)).keys) (omega arith)
    (rows_from (step state entry) more made.1 (rows_after state.entries entry.time entry.what state.keys made.0 are))

pub made_rows : (history more : List Entry) → AreMadeFrom 0 (history ++ more) → AreRows (length history) (replay history).keys
made_rows history more made =
    subst (λ (n : ℕ). AreRows n (replay history).keys) (omega arith) (rows_from nothing_yet history (made_front 0 history more made) (no_rows 0 [] refl))

-- a key that is there at a history and at a longer one still has it at the longer one
pub row_stays : (P : KeyRow → Type 0) (stays : (row new : KeyRow) → Follows row new → P row → P new) (history more : List Entry) (id : List ℕ) (row later : KeyRow) → AreMadeFrom 0 (history ++ more)
    → key_with (replay history).keys id ≡ Some row → key_with (replay (history ++ more)).keys id ≡ Some later → later.key ≡ id → P row → P later
row_stays P stays history more id row later made found found_later is has =
    let are : AreRows (length history) (replay history).keys = made_rows history more made in
    let entries : (replay history).entries ≡ length history = replay-entries history in
    let row_of = found_all (λ (r : KeyRow). (r.key ≡ id) → place_in id < length history) (replay history).keys id row found (λ k d lt same. before k d lt same) in
    let all = all_from P stays id (replay history) more
    (subst (λ (n : ℕ). AreMadeFrom n more) (from_zero (length history) ∙ sym entries) (made_behind 0 history more made))
    (subst (λ (n : ℕ). place_in id < n) (sym entries) (row_of (key_of row found)))
    (the_one P (length history) (replay history).keys id row are found has) in
    let end : AllOf P id (replay (history ++ more)).keys = subst (λ (s : State). AllOf P id s.keys) (sym (fold-append step nothing_yet history more)) all in
    found_all (λ (r : KeyRow). r.key ≡ id → P r) (replay (history ++ more)).keys id later found_later end is
  where
    from_zero : (n : ℕ) → 0 + n ≡ n
    from_zero n = omega arith

    before : (k : ℕ) (d : KeyRow) → k < length (replay history).keys → (get_or (replay history).keys k d).key ≡ id → place_in id < length history
    before k d lt same = let is_row = (made_rows history more made).each k d lt in omega (arith, ap place_in same, is_row.named, is_row.before)

    key_of : (r : KeyRow) → key_with (replay history).keys id ≡ Some r → r.key ≡ id
    key_of r e = found_key (replay history).keys id r e

-- it has no fewer versions
pub versions_grow : (history more : List Entry) (id : List ℕ) (row later : KeyRow) → AreMadeFrom 0 (history ++ more)
    → key_with (replay history).keys id ≡ Some row → key_with (replay (history ++ more)).keys id ≡ Some later → later.key ≡ id → length row.versions ≤ length later.versions
versions_grow history more id row later made found found_later is =
    row_stays (λ (r : KeyRow). length row.versions ≤ length r.versions) (λ r new follows some. omega (arith, some, follows.more)) history more id row later made found found_later is (omega arith)

-- it is of the same kind
pub kind_stays : (history more : List Entry) (id : List ℕ) (row later : KeyRow) → AreMadeFrom 0 (history ++ more)
    → key_with (replay history).keys id ≡ Some row → key_with (replay (history ++ more)).keys id ≡ Some later → later.key ≡ id → later.kind ≡ row.kind
kind_stays history more id row later made found found_later is =
    row_stays (λ (r : KeyRow). r.kind ≡ row.kind) (λ r new follows same. follows.kind ∙ same) history more id row later made found found_later is refl
