-- The places of a pass's own entries.
use Rattle.std.proofs.Common.{◌≡◌, ℕ, zero, suc, ◌+◌, ◌≤◌, List, [], ◌∷◌, ◌++◌, length, length-append, append-nil, append_assoc, Option, Some, None, refl, sym, ap, ◌∙◌, subst, arith, ◌⊎◌, inl, inr}
use mathlib.Core.List.{IsPrefix}
use Rattle.account_steps.specs.History.{Entry}
use Rattle.published_account.specs.Growing.{Pairs}
use Rattle.publish_pass.specs.Pass.{Pass, Learns, making, making_any, LeavesAtMost, MadeAll, MadeAllIfAlone, ArePlaces, no_entry, passed_over, taken, first_places}

length_push : {A : Type 0} (xs : List A) (x : A) → length (xs ++ x ∷ []) ≡ suc (length xs)
length_push [] x = refl
length_push (y ∷ ys) x = ap suc (length_push ys x)

-- ---- places in a history that grows

pub no_places : {A : Type 0} (k : ℕ) (places : List ℕ) (history : List A) → length history ≡ k → places ≡ [] → ArePlaces k (length history) places
no_places k places history size none = subst (λ (ps : List ℕ). ArePlaces k (length history) ps) (sym none) (subst (λ (n : ℕ). ArePlaces k n []) (sym size) no_entry)

later : (k more n : ℕ) (places : List ℕ) → ArePlaces k n places → ArePlaces k (more + n) places
later k zero n places are = let none : zero + n ≡ n = omega arith in subst (λ (m : ℕ). ArePlaces k m places) (sym none) are
later k (suc more) n places are = let one : suc more + n ≡ suc (more + n) = omega arith in subst (λ (m : ℕ). ArePlaces k m places) (sym one) (passed_over (later k more n places are))

-- they stay places where the history goes on
pub places_stay : {A : Type 0} (k : ℕ) (places : List ℕ) (old new : List A) → IsPrefix old new → ArePlaces k (length old) places → ArePlaces k (length new) places
places_stay k places old new begins are =
    let size : length new ≡ length begins.0 + length old = omega (arith, sym (ap length begins.1), length-append old begins.0) in
    subst (λ (n : ℕ). ArePlaces k n places) (sym size) (later k (length begins.0) (length old) places are)

-- and the place of one more entry joins them
pub one_more_place : {A : Type 0} (k : ℕ) (places now : List ℕ) (old desk new : List A) (x : A) (place : ℕ) → ArePlaces k (length old) places → old ≡ desk → place ≡ length desk
    → new ≡ desk ++ x ∷ [] → now ≡ places ++ place ∷ [] → ArePlaces k (length new) now
one_more_place k places now old desk new x place are met at grown joined =
    let here : ArePlaces k (length desk) places = subst (λ (h : List _). ArePlaces k (length h) places) met are in
    let more : ArePlaces k (suc (length desk)) (places ++ length desk ∷ []) = taken here in
    let joined_there : places ++ length desk ∷ [] ≡ now = ap (λ (p : ℕ). places ++ p ∷ []) (sym at) ∙ sym joined in
    let size : suc (length desk) ≡ length new = sym (length_push desk x) ∙ sym (ap length grown) in
    subst (λ (n : ℕ). ArePlaces k n now) size (subst (λ (ps : List ℕ). ArePlaces k (suc (length desk)) ps) joined_there more)

-- there are no more of them than entries behind the loaded ones
no_more : (k n : ℕ) (places : List ℕ) → ArePlaces k n places → length places + k ≤ n
no_more k n places no_entry = omega arith
no_more k n places (passed_over {n = m} {places = ps} are) = omega (arith, no_more k m ps are)
no_more k n places (taken {n = m} {places = ps} are) = omega (arith, no_more k m ps are, length_push ps m)

-- where there are as many, they are all of those
all_places : (k n : ℕ) (places : List ℕ) → ArePlaces k n places → length places + k ≡ n → first_places n ≡ first_places k ++ places
all_places k n places no_entry as_many = sym (append-nil (first_places k))
all_places k n places (passed_over {n = m} {places = ps} are) as_many = absurd (omega (arith, no_more k m ps are, as_many))
all_places k n places (taken {n = m} {places = ps} are) as_many =
    ap (λ (xs : List ℕ). xs ++ m ∷ []) (all_places k m ps are (omega (arith, as_many, length_push ps m))) ∙ append_assoc (first_places k) ps (m ∷ [])

-- ---- a pass that is alone

-- a list that another begins, and that is no longer, is that other
same_list : {A : Type 0} (old new : List A) → IsPrefix old new → length new ≤ length old → new ≡ old
same_list old new ([], joined) few = sym joined ∙ append-nil old
same_list old new (x ∷ xs, joined) few = absurd (omega (arith, few, ap length joined, length-append old (x ∷ xs)))

-- of entries that were loaded, or are its own, it knew
knew_them : {A : Type 0} (k : ℕ) (own : List ℕ) (old new : List A) → ArePlaces k (length old) own → IsPrefix old new → length own + k ≡ length new → new ≡ old
knew_them k own old new are begins as_many = same_list old new begins (omega (arith, no_more k (length old) own are, as_many))

-- a pass that meets a desk of as many entries as were loaded and it made, and then holds all that the desk has
module _ (s t : Pass) (are : ArePlaces s.loaded (length s.history) s.own) (learns : Learns s t) (as_many : length s.own + s.loaded ≡ length t.history) where
  pub it_knew : t ≡ s
  it_knew = learns.others ∙ ap (λ (h : Pairs). let u : Pass = record s { history = h } in u) (knew_them s.loaded s.own s.history t.history are learns.history as_many)

  pub it_made : MadeAll t
  it_made = subst MadeAll (sym it_knew) (all_places s.loaded (length s.history) s.own are (as_many ∙ ap (λ (p : Pass). length p.history) it_knew))

all_and_one : (s : Pass) (entry : Entry) → MadeAllIfAlone s → MadeAllIfAlone (making s entry)
all_and_one s entry all one =
    ap first_places (length_push s.history (entry, s.number)) ∙ ap (λ (ps : List ℕ). ps ++ length s.history ∷ []) (all one)
    ∙ append_assoc (first_places s.loaded) s.own (length s.history ∷ [])

pub all_and_any : (s : Pass) (made : Option Entry) → MadeAllIfAlone s → MadeAllIfAlone (making_any s made)
all_and_any s None all = all
all_and_any s (Some entry) all = all_and_one s entry all

pub all_left : (s t : Pass) (clock : ℕ) → MadeAllIfAlone s → LeavesAtMost s clock t → MadeAllIfAlone t
all_left s t clock all (inl same) = subst MadeAllIfAlone (sym same) all
all_left s t clock all (inr kept) = subst MadeAllIfAlone (sym kept) (all_and_any s _ all)
