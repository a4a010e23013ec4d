-- Workers in order, and what their passes learn.
use Rattle.std.proofs.Common.{◌≡◌, ◌≢◌, ◌↔◌, ◌<◌, ◌≤◌, le_refl, ◌+◌, ◌*◌, ℕ, zero, suc, List, [], ◌∷◌, ◌++◌, length, length-append, map, get_or, take, drop, below_more, Bool, refl, sym, subst, inr, ap, ap₂, ◌∙◌, arith}
use Rattle.std.specs.Prelude.{All}
use Rattle.std.proofs.lemmas.List.Sums.{sum-map, sum_by-cons}
use Rattle.std.proofs.lemmas.List.Elements.{All-map, All-head, All-tail, All-cons}
use Rattle.std.specs.Prelude.{All, IsTrue, Result, Ok, Err, OnOk, OnErr}
use Rattle.std.specs.List.{slice_set}
use Rattle.std.proofs.lemmas.List.{get_or-set_same, get_or-set_other, get_or_default}
use Rattle.account_steps.specs.declared.facts.RealmFacts.{RealmFacts}
use mathlib.Core.List.{IsPrefix}
use Rattle.account_steps.specs.History.{Entry}
use Rattle.published_account.specs.Growing.{Pairs}
use Rattle.published_account.specs.Pairs.{IsHistory, entries_of, LeadsTo, stays}
use Rattle.published_account.proofs.Lists.{prefix_self}
use Rattle.publish_pass.specs.Pass.{Pass, Learns, Meets, fresh_pass, fresh_passes, KeepsHouse, WantsHouse}
use Rattle.publish_pass.proofs.Meeting.{learns_self, learns_trans}
use Rattle.session_front.specs.declared.trust.Trust.{Trust}
use Rattle.kms_server.specs.Work.{WorkerState, Works, takes_all, gives_up}
use Rattle.kms_server.specs.declared.crew.Kept.{Kept}
use Rattle.kms_server.specs.Crew.{Pairwise, none, both, Settles, HoldsAll, FirstHolds, FirstIsLongest, KeepsOf, Keeps, taken_by}

-- what is so place by place is so in order
pub pairwise_each : {A X : Type 0} (P : X → X → Type 0) (f : A → X) (xs ys : List A) → length ys ≡ length xs
    → ((i : ℕ) (d : A) → i < length xs → P (f (get_or xs i d)) (f (get_or ys i d))) → Pairwise P (map f xs) (map f ys)
pairwise_each P f [] [] same each = none
pairwise_each P f [] (y ∷ ys) same each = absurd (omega arith)
pairwise_each P f (x ∷ xs) [] same each = absurd (omega arith)
pairwise_each P f (x ∷ xs) (y ∷ ys) same each =
    both (each 0 x (omega arith)) (pairwise_each P f xs ys (omega arith) (λ i d h. each (suc i) d (omega arith)))

pub map_map : {A X Y : Type 0} (f : X → Y) (g : A → X) (xs : List A) → map f (map g xs) ≡ map (λ x. f (g x)) xs
map_map f g [] = refl
map_map f g (x ∷ xs) = ap (λ ys. f (g x) ∷ ys) (map_map f g xs)

pub settles_self : (s : WorkerState) → Settles s s
settles_self s = record { learns = learns_self s.pass; others = refl }

pub settles_then : (s t u : WorkerState) → Settles s t → Settles t u → Settles s u
settles_then s t u p q = record { learns = learns_trans s.pass t.pass u.pass p.learns q.learns; others = cc }

pub settled_all : (ss : List WorkerState) → Pairwise Settles ss ss
settled_all [] = none
settled_all (s ∷ ss) = both (settles_self s) (settled_all ss)

pub settle_on : (ss ts us : List WorkerState) → Pairwise Settles ss ts → Pairwise Settles ts us → Pairwise Settles ss us
settle_on [] [] [] none none = none
settle_on [] [] (u ∷ us) h k = elim k [ ]
settle_on [] (t ∷ ts) us h k = elim h [ ]
settle_on (s ∷ ss) [] us h k = elim h [ ]
settle_on (s ∷ ss) (t ∷ ts) [] h k = elim k [ ]
settle_on (s ∷ ss) (t ∷ ts) (u ∷ us) (both p h) (both q k) = both (settles_then s t u p q) (settle_on ss ts us h k)

taken_cons : (s : WorkerState) (ss : List WorkerState) → taken_by (s ∷ ss) ≡ s.taken + taken_by ss
taken_cons s ss =
    let taken : WorkerState → ℕ = λ w. w.taken in
    sum-map taken (s ∷ ss) ∙ sum_by-cons taken s ss ∙ ap (λ (n : ℕ). s.taken + n) (sym (sum-map taken ss))

-- what was taken stays so
pub taken_settled : (ss ts : List WorkerState) → Pairwise Settles ss ts → taken_by ts ≡ taken_by ss
taken_settled [] [] none = refl
taken_settled [] (t ∷ ts) h = elim h [ ]
taken_settled (s ∷ ss) [] h = elim h [ ]
taken_settled (s ∷ ss) (t ∷ ts) (both p h) =
    taken_cons t ts ∙ ap₂ (λ m n. m + n) (ap (λ (w : WorkerState). w.taken) p.others) (taken_settled ss ts h) ∙ sym (taken_cons s ss)

-- a worker takes no more than it may
pub works_few : {keeping : Bool} {trust : Trust} {n : ℕ} {s t : WorkerState} → Works keeping trust n s t → t.taken ≤ n
works_few (takes_all run is in_) = omega (arith, is)
works_few (gives_up run few h) = let same : _ ≡ _ = ap (λ (w : WorkerState). w.taken) h.others in omega (arith, few, same)

pub taken_few : {keeping : Bool} {trust : Trust} (n : ℕ) (ss ts : List WorkerState) → n ≤ 144115188075855872 → Pairwise (Works keeping trust n) ss ts → taken_by ts ≤ length ss * 144115188075855872
taken_few n [] [] few none = omega arith
taken_few n [] (t ∷ ts) few h = elim h [ ]
taken_few n (s ∷ ss) [] few h = elim h [ ]
taken_few n (s ∷ ss) (t ∷ ts) few (both p h) =
    let here : t.taken ≤ n = works_few p in
    let rest : taken_by ts ≤ length ss * 144115188075855872 = taken_few n ss ts few h in
    let all : taken_by (t ∷ ts) ≡ t.taken + taken_by ts = taken_cons t ts in
    omega arith

pub length_fresh : (facts : RealmFacts) (passes : ℕ) (loaded : List Entry) (n : ℕ) → length (fresh_passes facts passes loaded n) ≡ n
length_fresh facts passes loaded zero = refl
length_fresh facts passes loaded (suc n) =
    let size : length (fresh_passes facts passes loaded n ++ fresh_pass facts passes loaded (suc n) ∷ []) ≡ length (fresh_passes facts passes loaded n) + 1 =
    length-append (fresh_passes facts passes loaded n) (fresh_pass facts passes loaded (suc n) ∷ []) in
    let before : length (fresh_passes facts passes loaded n) ≡ n = length_fresh facts passes loaded n in
    omega arith

-- one more place is related, and those below it stay so
pub related_more : {A : Type 0} (P : A → A → Type 0) (xs ys : List A) (i : ℕ) (e y : A) → i < length ys
    → ((k : ℕ) (d : A) → k < i → P (get_or xs k d) (get_or ys k d)) → ((d : A) → get_or ys i d ≡ get_or xs i d) → P (get_or ys i e) y
    → (k : ℕ) (d : A) → k < i + 1 → P (get_or xs k d) (get_or (slice_set ys i y) k d)
related_more P xs ys i e y within below kept here k d lt =
    below_more (λ (j : ℕ). P (get_or xs j d) (get_or (slice_set ys i y) j d)) i
    (λ j h. let apart : j ≢ i = omega arith in subst (λ z. P (get_or xs j d) z) (sym (get_or-set_other ys i j y d apart)) (below j d h))
    (subst (λ z. P (get_or xs i d) z) (sym (get_or-set_same ys i y d within)) (subst (λ z. P z y) (get_or_default ys i e d within ∙ kept d) here))
    k lt

-- places above it stay as they were
pub kept_more : {A : Type 0} (xs ys : List A) (i : ℕ) (y : A) → ((k : ℕ) (d : A) → i ≤ k → get_or ys k d ≡ get_or xs k d)
    → (k : ℕ) (d : A) → i + 1 ≤ k → get_or (slice_set ys i y) k d ≡ get_or xs k d
kept_more xs ys i y above k d le = let apart : k ≢ i = omega arith in get_or-set_other ys i k y d apart ∙ above k d (omega arith)

-- housekeeping was done, or for want of memory at most that
pub house_left : {A E : Type 0} (r : Result A E) (s t : Pass) (moment : ℕ) → OnOk r (KeepsHouse s moment t) → OnErr r (WantsHouse s moment t) → WantsHouse s moment t
house_left (Ok done) s t moment kept wants = record { met = kept.met; seen = kept.seen; left = inr kept.kept; knew = kept.knew; made_all = kept.made_all }
house_left (Err lacks) s t moment kept wants = wants

-- a pass that missed the published account, and then learnt more of the history
pub meets_after : (s l t : Pass) → l ≡ (let p : Pass = record s { missed = l.missed } in p) → s.missed ≤ l.missed → Learns l t → Meets s t
meets_after s l t same missed learns =
    let often : t.missed ≡ l.missed = ap (λ (p : Pass). p.missed) learns.others in
    record {
      history = subst (λ (h : Pairs). IsPrefix h t.history) (ap (λ (p : Pass). p.history) same) learns.history;
      others = learns.others ∙ ap (λ (p : Pass). let q : Pass = record p { history = t.history } in q) same
          ∙ ap (λ (n : ℕ). let q : Pass = record s { history = t.history; missed = n } in q) (sym often);
      missed = omega (arith, missed, often);
      leads = subst (λ (p : Pass). LeadsTo p.facts (entries_of p.history) (entries_of t.history)) same learns.leads;
    }

pub meets_self : (s : Pass) → Meets s s
meets_self s = record { history = prefix_self s.history; others = refl; missed = le_refl s.missed; leads = stays }

-- the account of the history that the first of them holds is kept
pub kept_here : (facts : RealmFacts) (wanted : Bool) (account : Kept) (history : Pairs) (crew : List WorkerState) → FirstHolds history crew
    → ((pass : Pass) → pass.history ≡ history → KeepsOf facts wanted account pass pass) → Keeps facts wanted account crew crew
kept_here facts wanted account history [] holds keeps = absurd holds
kept_here facts wanted account history (s ∷ ss) holds keeps = (keeps s.pass holds, refl, refl)

-- how many entries that is
pub front_is : (facts : RealmFacts) (passes loaded front : ℕ) (history : Pairs) (crew : List WorkerState) → FirstIsLongest facts passes loaded front crew → FirstHolds history crew
    → front ≡ length history
front_is facts passes loaded front history [] longest holds = absurd holds
front_is facts passes loaded front history (s ∷ ss) longest holds = longest.size ∙ ap length holds

-- the first of them, which holds all that another holds, has so many entries
pub longest_first : {A : Type 0} (seen : A → WorkerState) (facts : RealmFacts) (passes loaded front : ℕ) (crew : List A) (d : A) → 0 < length crew → HoldsAll (map seen crew)
    → IsHistory facts passes loaded (seen (get_or crew 0 d)).pass.history → front ≡ length (seen (get_or crew 0 d)).pass.history
    → FirstIsLongest facts passes loaded front (map seen crew)
longest_first seen facts passes loaded front [] d some holds is size = absurd (omega arith)
longest_first seen facts passes loaded front (x ∷ xs) d some holds is size = record { is_history = is; size = size; begins = holds }

-- its history
pub told_first : {A : Type 0} (seen : A → WorkerState) (crew : List A) (d : A) (history : Pairs) → 0 < length crew → history ≡ (seen (get_or crew 0 d)).pass.history → FirstHolds history (map seen crew)
told_first seen [] d history some is = absurd (omega arith)
told_first seen (x ∷ xs) d history some is = sym is

pub one_first : (one other : Pairs) (crew : List WorkerState) → FirstHolds one crew → FirstHolds other crew → one ≡ other
one_first one other [] here there = absurd here
one_first one other (s ∷ ss) here there = sym here ∙ there

-- the first of a list, and what is left of it
pub first_and_rest : {A : Type 0} (xs rest : List A) (x : A) → 0 < length xs → x ≡ get_or xs 0 x → rest ≡ take 0 xs ++ drop (0 + 1) xs → x ∷ rest ≡ xs
first_and_rest [] rest x some is left = absurd (omega arith)
first_and_rest (y ∷ ys) rest x some is left = ap₂ (λ a b. a ∷ b) is left

pub all_unmap : {A X : Type 0} (P : X → Type 0) (f : A → X) (xs : List A) → All P (map f xs) → All (λ x. P (f x)) xs
all_unmap P f [] all = λ k d lt. absurd (omega arith)
all_unmap P f (x ∷ xs) all = All-cons (λ y. P (f y)) x xs (All-head P (f x) (map f xs) all) (all_unmap P f xs (All-tail P (f x) (map f xs) all))

-- what holds of each is told of each, through what is seen of them
pub tells_all : {A X : Type 0} (P : X → Type 0) (f : A → X) (xs ys : List A) (told : Bool) → ys ≡ xs → (IsTrue told ↔ All (λ x. P (f x)) ys) → IsTrue told ↔ All P (map f xs)
tells_all P f xs ys told same tells =
    let both_ways = subst (λ zs. IsTrue told ↔ All (λ x. P (f x)) zs) same tells in
    (λ h. All-map P f xs (both_ways.0 h), λ all. both_ways.1 (all_unmap P f xs all))

-- what a slice of a whole vector left is what the vector then holds
pub written_back : {A : Type 0} (n : ℕ) (xs rest : List A) → n ≡ length xs → take n (xs ++ rest) ≡ xs
written_back zero [] rest same = refl
written_back (suc n) [] rest same = absurd (omega arith)
written_back zero (x ∷ xs) rest same = absurd (omega arith)
written_back (suc n) (x ∷ xs) rest same = ap (λ ys. x ∷ ys) (written_back n xs rest (omega arith))
