-- Lists of pairs, and beginnings of one list.
use Rattle.std.proofs.Common.{◌≡◌, ℕ, zero, suc, ◌+◌, ◌≤◌, ◌<◌, ◌⊎◌, inl, inr, ⊎_elim, subst, List, [], ◌∷◌, ◌++◌, length, length-append, take, get_or, Some, fold, refl, ap, sym, ◌∙◌, arith, append_assoc}
use Rattle.std.specs.Prelude.{slice_get}
use Rattle.std.proofs.lemmas.Option.{slice_get_within, get_or_from_slice_get}
use mathlib.Core.List.{IsPrefix}
use Rattle.std.proofs.lemmas.List.{map-append, length-map}
use Rattle.account_steps.specs.History.{Entry}
use Rattle.account_core.specs.Account.{Account}
use Rattle.account_core.specs.Decide.{IsNext, IsLawful, empty, longer}
use Rattle.account_core.specs.Fitting.{IsHeld, appended_to}
use Rattle.published_account.specs.Pairs.{entries_of, loaded_pairs, whole_of, account_in, IsHistory, was_loaded, was_made, LeadsTo, stays, leads_on}
use Rattle.account_steps.specs.declared.facts.RealmFacts.{RealmFacts}

-- each list begins with itself
pub prefix_self : {A : Type 0} (xs : List A) → IsPrefix xs xs
prefix_self [] = ([], refl)
prefix_self (x ∷ xs) = (let r = prefix_self xs in r.0, ap (λ ys. x ∷ ys) (prefix_self xs).1)

pub prefix_push : {A : Type 0} (xs : List A) (x : A) → IsPrefix xs (xs ++ x ∷ [])
prefix_push xs x = (x ∷ [], refl)

pub prefix_trans : {A : Type 0} (xs ys zs : List A) → IsPrefix xs ys → IsPrefix ys zs → IsPrefix xs zs
prefix_trans xs ys zs p q = (p.0 ++ q.0, sym (append_assoc xs p.0 q.0) ∙ (ap (λ w. w ++ q.0) p.1 ∙ q.1))

-- of two beginnings of one list the shorter begins the longer
pub prefix_shorter : {A : Type 0} (xs ys zs : List A) → IsPrefix xs zs → IsPrefix ys zs → length xs ≤ length ys → IsPrefix xs ys
prefix_shorter [] ys zs p q le = (ys, refl)
prefix_shorter (x ∷ xs) [] zs p q le = absurd (omega arith)
prefix_shorter (x ∷ xs) (y ∷ ys) [] p q le = absurd (cc (p.1))
prefix_shorter (x ∷ xs) (y ∷ ys) (z ∷ zs) p q le =
    let heads : x ≡ y = cc (p.1, q.1) in
    let rest = prefix_shorter xs ys zs (p.0, cc (p.1)) (q.0, cc (q.1)) (omega arith) in
    (rest.0, cc (heads, rest.1))

-- the last operation is what is left, where each takes the place of all
pub fold_last : {A : Type 0} (s o : A) (os : List A) → fold (λ (x y : A). y) s (os ++ o ∷ []) ≡ o
fold_last s o [] = refl
fold_last s o (p ∷ os) = fold_last p o os

-- a beginning as long as the whole is the whole
pub prefix_whole : {A : Type 0} (xs ys : List A) → IsPrefix xs ys → length ys ≤ length xs → xs ≡ ys
prefix_whole [] [] p le = refl
prefix_whole [] (y ∷ ys) p le = absurd (omega arith)
prefix_whole (x ∷ xs) [] p le = absurd (cc (p.1))
prefix_whole (x ∷ xs) (y ∷ ys) p le =
    let rest = prefix_whole xs ys (p.0, cc (p.1)) (omega arith) in cc (p.1, rest)

pub entries_of-push : (pairs : List (Entry × ℕ)) (x : Entry × ℕ) → entries_of (pairs ++ x ∷ []) ≡ entries_of pairs ++ x.0 ∷ []
entries_of-push pairs x = map-append (λ (made : Entry × ℕ). made.0) pairs (x ∷ [])

pub entries_of-loaded : (entries : List Entry) → entries_of (loaded_pairs entries) ≡ entries
entries_of-loaded [] = refl
entries_of-loaded (entry ∷ entries) = ap (λ es. entry ∷ es) (entries_of-loaded entries)

take_next : {A : Type 0} (xs : List A) (k : ℕ) (x : A) → k < length xs → get_or xs k x ≡ x → take (k + 1) xs ≡ take k xs ++ x ∷ []
take_next [] k x lt at = absurd (omega (arith, lt))
take_next (y ∷ ys) zero x lt at = ap (λ z. z ∷ []) at
take_next (y ∷ ys) (suc k) x lt at =
    let one : suc k + 1 ≡ suc (k + 1) = omega arith in ap (λ (n : ℕ). take n (y ∷ ys)) one ∙ ap (λ zs. y ∷ zs) (take_next ys k x (omega (arith, lt)) at)

-- one more of the entries that are loaded
pub loaded-next : (entries : List Entry) (k : ℕ) (entry : Entry) → slice_get entries k ≡ Some entry → loaded_pairs (take (k + 1) entries) ≡ loaded_pairs (take k entries) ++ (entry, 0) ∷ []
loaded-next entries k entry is =
    ap loaded_pairs (take_next entries k entry (slice_get_within entries k entry is) (get_or_from_slice_get entries k entry entry is))
    ∙ map-append (λ (e : Entry). (e, 0)) (take k entries) (entry ∷ [])

-- the account whose entries were loaded, once more
pub account_of_whole : (account : Account) (passes : ℕ) → account_in (whole_of account passes) ≡ account
account_of_whole account passes = ap (λ (entries : List Entry). let a : Account = record { facts = account.facts; entries = entries } in a) (entries_of-loaded account.entries)

pub history_loaded : (facts : RealmFacts) (n k : ℕ) (entries : List Entry) → IsHeld facts entries → length entries ≡ k → IsHistory facts n k (loaded_pairs entries)
history_loaded facts n k entries held size = was_loaded entries held size

-- a history with one more entry
pub history_push : (facts : RealmFacts) (n k : ℕ) (pairs : List (Entry × ℕ)) (x : Entry × ℕ) → IsHistory facts n k pairs → IsNext facts (entries_of pairs) x.0 × (0 < x.1) × (x.1 ≤ n)
    → IsHistory facts n k (pairs ++ x ∷ [])
history_push facts n k pairs (entry, maker) is next = was_made entry maker is next.0 next.1 next.2

-- the entries of a history are those of an account
pub history_held : (facts : RealmFacts) (n k : ℕ) (pairs : List (Entry × ℕ)) → IsHistory facts n k pairs → IsHeld facts (entries_of pairs)
history_held facts n k _ (was_loaded entries held size) = subst (IsHeld facts) (sym (entries_of-loaded entries)) held
history_held facts n k _ (was_made {pairs = pairs} entry maker is next more least) =
    subst (IsHeld facts) (sym (entries_of-push pairs (entry, maker))) (appended_to entry (history_held facts n k pairs is) next)

nothing_loaded : (facts : RealmFacts) (entries : List Entry) → length entries ≡ 0 → IsLawful facts (entries_of (loaded_pairs entries))
nothing_loaded facts [] size = empty
nothing_loaded facts (entry ∷ entries) size = absurd (omega (arith, size))

-- where nothing was loaded, it is lawful
pub history_lawful : (facts : RealmFacts) (n : ℕ) (pairs : List (Entry × ℕ)) → IsHistory facts n 0 pairs → IsLawful facts (entries_of pairs)
history_lawful facts n _ (was_loaded entries held size) = nothing_loaded facts entries size
history_lawful facts n _ (was_made {pairs = pairs} entry maker is next more least) =
    subst (IsLawful facts) (sym (entries_of-push pairs (entry, maker))) (longer entry (history_lawful facts n pairs is) next)

-- the loaded entries come first
pub history_size : (facts : RealmFacts) (n k : ℕ) (pairs : List (Entry × ℕ)) → IsHistory facts n k pairs → k ≤ length pairs
history_size facts n k _ (was_loaded entries held size) = omega (arith, size, length-map {B = Entry × ℕ} entries (λ (entry : Entry). (entry, 0)))
history_size facts n k _ (was_made {pairs = pairs} entry maker is next more least) =
    omega (arith, history_size facts n k pairs is, length-append pairs ((entry, maker) ∷ []))

-- a beginning of a list with one more is that list, or a beginning of what comes before
prefix_cut : {A : Type 0} (xs ys : List A) (y : A) → IsPrefix xs (ys ++ y ∷ []) → (xs ≡ ys ++ y ∷ []) ⊎ IsPrefix xs ys
prefix_cut [] ys y p = inr (ys, refl)
prefix_cut (x ∷ xs) [] y p = inl (prefix_whole (x ∷ xs) (y ∷ []) p (omega arith))
prefix_cut (x ∷ xs) (z ∷ ys) y p =
    let heads : x ≡ z = cc (p.1) in
    ⊎_elim
    (λ (whole : xs ≡ ys ++ y ∷ []). inl (cc (heads, whole)))
    (λ (begins : IsPrefix xs ys). inr (begins.0, cc (heads, begins.1)))
    (prefix_cut xs ys y (p.0, cc (p.1)))

-- of two histories of a realm, one of which begins the other, the other's further entries may come next
pub history_leads : (facts : RealmFacts) (n k : ℕ) (old new : List (Entry × ℕ)) → IsHistory facts n k old → IsPrefix old new → IsHistory facts n k new
    → LeadsTo facts (entries_of old) (entries_of new)
history_leads facts n k old _ is begins (was_loaded entries held size) =
    let few : length (loaded_pairs entries) ≤ length old = omega (arith, size, length-map {B = Entry × ℕ} entries (λ (entry : Entry). (entry, 0)), history_size facts n k old is) in
    subst (λ (pairs : List (Entry × ℕ)). LeadsTo facts (entries_of old) (entries_of pairs)) (prefix_whole old (loaded_pairs entries) begins few) stays
history_leads facts n k old _ is begins (was_made {pairs = pairs} entry maker was next more least) = ⊎_elim
    (λ (whole : old ≡ pairs ++ (entry, maker) ∷ []). subst (λ (ps : List (Entry × ℕ)). LeadsTo facts (entries_of old) (entries_of ps)) whole stays)
    (λ (earlier : IsPrefix old pairs).
    subst (LeadsTo facts (entries_of old)) (sym (entries_of-push pairs (entry, maker))) (leads_on entry (history_leads facts n k old pairs is earlier was) next))
    (prefix_cut old pairs (entry, maker) begins)

pub leads_trans : (facts : RealmFacts) (first next last : List Entry) → LeadsTo facts first next → LeadsTo facts next last → LeadsTo facts first last
leads_trans facts first next _ leads stays = leads
leads_trans facts first next _ leads (leads_on {later = later} entry on may) = leads_on entry (leads_trans facts first next later leads on) may

-- what may follow a lawful history makes a lawful one
pub leads_lawful : (facts : RealmFacts) (history later : List Entry) → LeadsTo facts history later → IsLawful facts history → IsLawful facts later
leads_lawful facts history _ stays lawful = lawful
leads_lawful facts history _ (leads_on {later = later} entry leads may) lawful = longer entry (leads_lawful facts history later leads lawful) may
