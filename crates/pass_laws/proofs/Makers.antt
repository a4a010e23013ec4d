-- Whose own the entries of a history are.
use Rattle.std.proofs.Common.{◌≡◌, ◌≢◌, ◌⊎◌, inl, inr, ℕ, zero, suc, ◌+◌, ◌≤◌, ◌<◌, ◌==◌, Bool, true, false, cond, List, [], ◌∷◌, ◌++◌, length, length-append, append-nil, append_assoc, drop, Option, Some, None, refl, sym, ap, ◌∙◌, subst, arith}
use mathlib.Core.List.{IsPrefix}
use Rattle.std.proofs.lemmas.Bool.Decides.{nat_tests}
use Rattle.account_steps.specs.declared.facts.RealmFacts.{RealmFacts}
use Rattle.account_steps.specs.History.{Entry}
use Rattle.published_account.specs.Pairs.{IsHistory, was_loaded, was_made, loaded_pairs}
use Rattle.publish_pass.specs.Pass.{Pass, Meets, Decides, making_any, keeping_house, fresh_pass}
use Rattle.pass_laws.specs.Machine.{places_of_maker}
use Rattle.pass_laws.specs.Calls.{Call, read, wanted_to_read, missed, changed, wanted_to_change, kept_house, wanted_to_keep_house, learnt, changed_at_desk, kept_house_at_desk, Calls, no_call, one_more}
use Rattle.pass_laws.proofs.Kept.{places_push, drop_push, drop_length, loaded_length}
use Rattle.published_account.proofs.Lists.{history_size}

-- these are places in a history whose first k entries were loaded, each once and in order, behind the loaded ones, and their entries bear this number
pub data AreOwn (k n : ℕ) : List (Entry × ℕ) → List ℕ → Type 0 where
  none_yet : {history : List (Entry × ℕ)} → length history ≡ k → AreOwn k n history []
  of_another : {history : List (Entry × ℕ)} {own : List ℕ} (pair : Entry × ℕ) → AreOwn k n history own → AreOwn k n (history ++ pair ∷ []) own
  of_its_own : {history : List (Entry × ℕ)} {own : List ℕ} (entry : Entry) → AreOwn k n history own → AreOwn k n (history ++ (entry, n) ∷ []) (own ++ length history ∷ [])

-- they stay so where the history goes on
own_behind : (k n : ℕ) (history more : List (Entry × ℕ)) (own : List ℕ) → AreOwn k n history own → AreOwn k n (history ++ more) own
own_behind k n history [] own are = subst (λ (h : List (Entry × ℕ)). AreOwn k n h own) (sym (append-nil history)) are
own_behind k n history (pair ∷ more) own are =
    subst (λ (h : List (Entry × ℕ)). AreOwn k n h own) (append_assoc history (pair ∷ []) more) (own_behind k n (history ++ pair ∷ []) more own (of_another pair are))

module _ (k n : ℕ) where
  -- the pass has the number, and its own are of it
  abbrev pub Owns : Pass → Type 0
  Owns s = (s.number ≡ n) × AreOwn k n s.history s.own

  on_owns : (s u : Pass) → IsPrefix s.history u.history → u.number ≡ s.number → u.own ≡ s.own → Owns s → Owns u
  on_owns s u on number own owns = (
    number ∙ owns.0,
    subst (AreOwn k n u.history) (sym own) (subst (λ (h : List (Entry × ℕ)). AreOwn k n h s.own) on.1 (own_behind k n s.history on.0 s.own owns.1)),
  )

  meets_owns : (s u : Pass) → Meets s u → Owns s → Owns u
  meets_owns s u met owns = on_owns s u met.history (ap (λ (p : Pass). p.number) met.others) (ap (λ (p : Pass). p.own) met.others) owns

  any_owns : (s : Pass) (made : Option Entry) → Owns s → Owns (making_any s made)
  any_owns s None owns = owns
  any_owns s (Some entry) owns =
      (owns.0, subst (λ (m : ℕ). AreOwn k n (s.history ++ (entry, m) ∷ []) (s.own ++ length s.history ∷ [])) (sym owns.0) (of_its_own entry owns.1))

  house_owns : (s : Pass) (clock : ℕ) → Owns s → Owns (keeping_house s clock)
  house_owns s clock owns = any_owns s _ owns

  left_owns : (met t : Pass) (clock : ℕ) → (t ≡ met) ⊎ (t ≡ keeping_house met clock) → Owns met → Owns t
  left_owns met t clock (inl same) owns = subst Owns (sym same) owns
  left_owns met t clock (inr house) owns = subst Owns (sym house) (house_owns met clock owns)

  decides_owns : (s t : Pass) (x : _) (reply : _) → Decides s x reply t → Owns s → Owns t
  decides_owns s t x reply h owns = subst Owns (sym h.made) (any_owns s _ owns)

  learns_owns : (s u : Pass) → IsPrefix s.history u.history → u ≡ (let p : Pass = record s { history = u.history } in p) → Owns s → Owns u
  learns_owns s u on others owns = on_owns s u on (ap (λ (p : Pass). p.number) others) (ap (λ (p : Pass). p.own) others) owns

  call_owns : (old : Pass) (met : List (Entry × ℕ)) (new : Pass) → Call old met new → Owns old → Owns new
  call_owns old met new (read x reply proper reading h is) owns = subst Owns (sym h.used) (meets_owns old h.met h.seen owns)
  call_owns old met new (wanted_to_read x proper reading h is) owns = subst Owns (sym h.used) (meets_owns old h.met h.seen owns)
  call_owns old met new (missed h is) owns = subst Owns (sym h.others) owns
  call_owns old met new (changed x reply proper changing h is) owns =
      decides_owns (keeping_house h.met x.moment) new x reply h.decides (house_owns h.met x.moment (learns_owns old h.met h.seen.history h.seen.others owns))
  call_owns old met new (wanted_to_change x proper h is) owns = left_owns h.met new x.moment h.left (learns_owns old h.met h.seen.history h.seen.others owns)
  call_owns old met new (kept_house clock before h is) owns = left_owns h.met new clock (inr h.kept) (learns_owns old h.met h.seen.history h.seen.others owns)
  call_owns old met new (wanted_to_keep_house clock before h is) owns = left_owns h.met new clock h.left (learns_owns old h.met h.seen.history h.seen.others owns)
  call_owns old met new (learnt h is) owns = learns_owns old new h.history h.others owns
  call_owns old met new (changed_at_desk x reply proper changing h is) owns = decides_owns (keeping_house old x.moment) new x reply h (house_owns old x.moment owns)
  call_owns old met new (kept_house_at_desk clock before h is) owns = left_owns old new clock h owns

  calls_owns : (first last : Pass) → Calls first last → Owns first → Owns last
  calls_owns first last no_call owns = owns
  calls_owns first last (one_more {old = old} met calls call) owns = call_owns old met last call (calls_owns first old calls owns)

-- whatever calls a pass makes, its own are of its number
pub own_of_calls : (facts : RealmFacts) (p n : ℕ) (loaded : List Entry) (last : Pass) → Calls (fresh_pass facts p loaded n) last → Owns (length loaded) n last
own_of_calls facts p n loaded last calls = calls_owns (length loaded) n (fresh_pass facts p loaded n) last calls (refl, none_yet (loaded_length loaded))

-- ---- how many there are

-- the places behind the loaded ones that have a number
abbrev pub places_by : ℕ → ℕ → List (Entry × ℕ) → List ℕ
places_by k n history = places_of_maker n k (drop k history)

-- a number's places where the history has one more entry
by_push : (k n : ℕ) (history : List (Entry × ℕ)) (entry : Entry) (m : ℕ) → k ≤ length history
    → places_by k n (history ++ (entry, m) ∷ []) ≡ cond (n == m) (places_by k n history ++ length history ∷ []) (places_by k n history)
by_push k n history entry m le =
    ap (places_of_maker n k) (drop_push k history (entry, m) le) ∙ places_push n k (drop k history) entry m
    ∙ ap (λ (j : ℕ). cond (n == m) (places_by k n history ++ j ∷ []) (places_by k n history)) (sym (drop_length k history le))

drop_all : (k : ℕ) (history : List (Entry × ℕ)) → length history ≡ k → drop k history ≡ []
drop_all zero [] size = refl
drop_all zero (pair ∷ history) size = absurd (omega (arith, size))
drop_all (suc k) [] size = refl
drop_all (suc k) (pair ∷ history) size = drop_all k history (omega (arith, size))

-- a pass has no more of them than there are, and where it has as many, it has all
record IsFew (k n : ℕ) (history : List (Entry × ℕ)) (own : List ℕ) : Type 0 where
  size : k ≤ length history
  few : length own ≤ length (places_by k n history)
  all : length own ≡ length (places_by k n history) → own ≡ places_by k n history

length_more : (xs : List ℕ) (x : ℕ) → length (xs ++ x ∷ []) ≡ length xs + 1
length_more xs x = length-append xs (x ∷ [])

few_of_another : (b : Bool) (k n : ℕ) (history : List (Entry × ℕ)) (pair : Entry × ℕ) (own : List ℕ) (place : ℕ)
    → places_by k n (history ++ pair ∷ []) ≡ cond b (places_by k n history ++ place ∷ []) (places_by k n history) → IsFew k n history own → IsFew k n (history ++ pair ∷ []) own
few_of_another true k n history pair own place is few = record {
  size = omega (arith, few.size, length-append history (pair ∷ []));
  few = omega (arith, few.few, ap length is, length_more (places_by k n history) place);
  all = λ same. absurd (omega (arith, same, few.few, ap length is, length_more (places_by k n history) place));
}
few_of_another false k n history pair own place is few = record {
  size = omega (arith, few.size, length-append history (pair ∷ []));
  few = omega (arith, few.few, ap length is);
  all = λ same. few.all (omega (arith, same, ap length is)) ∙ sym is;
}

is_self : (n : ℕ) (b : Bool) → (n == n) ≡ b → b ≡ true
is_self n true is = refl
is_self n false is = absurd (grind (arith, nat_tests))

few_of_its_own : (k n : ℕ) (history : List (Entry × ℕ)) (entry : Entry) (own : List ℕ) → IsFew k n history own → IsFew k n (history ++ (entry, n) ∷ []) (own ++ length history ∷ [])
few_of_its_own k n history entry own few =
    let places = places_by k n history in
    let is : places_by k n (history ++ (entry, n) ∷ []) ≡ places ++ length history ∷ [] =
    by_push k n history entry n few.size ∙ ap (λ (b : Bool). cond b (places ++ length history ∷ []) places) (is_self n (n == n) refl) in
    record {
      size = omega (arith, few.size, length-append history ((entry, n) ∷ []));
      few = omega (arith, few.few, ap length is, length_more places (length history), length_more own (length history));
      all = λ same. ap (λ (ps : List ℕ). ps ++ length history ∷ [])
          (few.all (omega (arith, same, ap length is, length_more places (length history), length_more own (length history)))) ∙ sym is;
    }

are_few : (k n : ℕ) (history : List (Entry × ℕ)) (own : List ℕ) → AreOwn k n history own → IsFew k n history own
are_few k n history _ (none_yet size) =
    let nothing : places_by k n history ≡ [] = ap (places_of_maker n k) (drop_all k history size) in
    record { size = omega (arith, size); few = omega arith; all = λ same. sym nothing }
are_few k n _ own (of_another {history = history} pair are) =
    let few = are_few k n history own are in few_of_another (n == pair.1) k n history pair own (length history) (by_push k n history pair.0 pair.1 few.size) few
are_few k n _ _ (of_its_own {history = history} {own = own} entry are) = few_of_its_own k n history entry own (are_few k n history own are)

-- what a pass holds that begins this history
module _ (k n : ℕ) (last : Pass) (history : List (Entry × ℕ)) (owns : Owns k n last) (begins : IsPrefix last.history history) where
  fews : IsFew k n history last.own
  fews = are_few k n history last.own (subst (λ (h : List (Entry × ℕ)). AreOwn k n h last.own) begins.1 (own_behind k n last.history begins.0 last.own owns.1))

  pub no_more_own : length last.own ≤ length (places_by k n history)
  no_more_own = fews.few

  pub all_own : length last.own ≡ length (places_by k n history) → last.own ≡ places_by k n history
  all_own same = fews.all same

-- of the numbers 1 to q together
abbrev pub places_of_all : ℕ → ℕ → List (Entry × ℕ) → ℕ
places_of_all k zero history = 0
places_of_all k (suc q) history = places_of_all k q history + length (places_by k (suc q) history)

module _ (k : ℕ) (history : List (Entry × ℕ)) (entry : Entry) (m : ℕ) (le : k ≤ length history) where
  abbrev further : List (Entry × ℕ)
  further = history ++ (entry, m) ∷ []

  by_it : (n : ℕ) (b : Bool) → (n == m) ≡ b → length (places_by k n further) ≡ length (places_by k n history) + cond b 1 0
  by_it n true is =
      ap length (by_push k n history entry m le ∙ ap (λ (b : Bool). cond b (places_by k n history ++ length history ∷ []) (places_by k n history)) is)
      ∙ length_more (places_by k n history) (length history)
  by_it n false is =
      let same = ap length (by_push k n history entry m le ∙ ap (λ (b : Bool). cond b (places_by k n history ++ length history ∷ []) (places_by k n history)) is) in omega (arith, same)

  is_apart : (n : ℕ) (b : Bool) → (n == m) ≡ b → n < m → b ≡ false
  is_apart n true is lt = absurd (let same : n ≡ m = grind (arith, nat_tests) in omega (arith, same, lt))
  is_apart n false is lt = refl

  below_it : (q : ℕ) → q < m → places_of_all k q further ≡ places_of_all k q history
  below_it zero lt = refl
  below_it (suc q) lt =
      let here : length (places_by k (suc q) further) ≡ length (places_by k (suc q) history) + 0 = by_it (suc q) false (is_apart (suc q) (suc q == m) refl lt) in
      omega (arith, here, below_it q (omega (arith, lt)))

  from_here : (q : ℕ) (b : Bool) → (suc q == m) ≡ b → m ≤ suc q → (m ≤ q → places_of_all k q further ≡ places_of_all k q history + 1)
      → places_of_all k (suc q) further ≡ places_of_all k (suc q) history + 1
  from_here q true is most before =
      let same : suc q ≡ m = grind (arith, nat_tests) in
      let more : length (places_by k (suc q) further) ≡ length (places_by k (suc q) history) + 1 = by_it (suc q) true is in
      omega (arith, more, below_it q (omega (arith, same)))
  from_here q false is most before =
      let apart : suc q ≢ m = grind (arith, nat_tests) in
      let nothing : length (places_by k (suc q) further) ≡ length (places_by k (suc q) history) + 0 = by_it (suc q) false is in
      omega (arith, nothing, before (omega (arith, most, apart)))

  from_it : (q : ℕ) → 0 < m → m ≤ q → places_of_all k q further ≡ places_of_all k q history + 1
  from_it zero some most = absurd (omega (arith, some, most))
  from_it (suc q) some most = from_here q (suc q == m) refl most (λ le. from_it q some le)

none_of_all : (k q : ℕ) (history : List (Entry × ℕ)) → drop k history ≡ [] → places_of_all k q history ≡ 0
none_of_all k zero history nothing = refl
none_of_all k (suc q) history nothing = omega (arith, none_of_all k q history nothing, ap (λ (h : List (Entry × ℕ)). length (places_of_maker (suc q) k h)) nothing)

-- each entry behind the loaded ones bears the number of one of the passes
pub each_is_some_own : (facts : RealmFacts) (p k : ℕ) (history : List (Entry × ℕ)) → IsHistory facts p k history → places_of_all k p history + k ≡ length history
each_is_some_own facts p k _ (was_loaded entries held size) =
    let count : length (loaded_pairs entries) ≡ k = loaded_length entries ∙ size in
    omega (arith, none_of_all k p (loaded_pairs entries) (drop_all k (loaded_pairs entries) count), count)
each_is_some_own facts p k _ (was_made {pairs = pairs} entry maker is next some most) =
    omega (arith, each_is_some_own facts p k pairs is, from_it k pairs entry maker (history_size facts p k pairs is) p some most, length-append pairs ((entry, maker) ∷ []))
