-- Each event keeps what holds of a state.
use Rattle.std.proofs.Common.{◌≡◌, ℕ, zero, suc, ◌+◌, ◌≤◌, ◌==◌, Bool, true, false, cond, max, List, [], ◌∷◌, ◌++◌, length, take, drop, Option, Some, None, refl, ap, sym, ◌∙◌, subst, arith, length-append, length-drop, le_refl, le_trans}
use Rattle.std.proofs.lemmas.List.{length-map}
use Rattle.std.proofs.lemmas.Bool.Decides.{nat_tests}
use Rattle.account_steps.specs.declared.facts.RealmFacts.{RealmFacts}
use Rattle.account_steps.specs.History.{Entry}
use Rattle.account_steps.specs.declared.places.Places.{Places}
use Rattle.account_steps.specs.Places.{no_places}
use Rattle.account_core.specs.Decide.{decide, IsNext, appended, kept}
use Rattle.account_laws.proofs.Histories.{opened_push}
use Rattle.account_laws.specs.Laws.{IsOpened, PassGoesOn, no_request, one_more, wants_memory, TimesNeverFall}
use Rattle.account_core.proofs.GoingOn.{same_entry, decide_goes_on}
use Rattle.published_account.specs.Pairs.{entries_of, loaded_pairs}
use Rattle.pass_laws.specs.Machine.{State, Event, house, change, read, starved, learn, start, made, looked, looked_at, made_any, IsNumber, places_after, Step, Runs, places_of_maker, Holds, Grows, HoldsAlways}
use Rattle.published_account.proofs.Lists.{history_loaded, history_push, history_size, entries_of-loaded, entries_of-push, prefix_self, prefix_push, prefix_trans}

-- ---- own places

push_cases : (b c : Bool) (k j i : ℕ) (P Q : List ℕ) → P ≡ cond c (Q ++ j ∷ []) Q → j ≡ i → cond b (k ∷ P) P ≡ cond c (cond b (k ∷ Q) Q ++ i ∷ []) (cond b (k ∷ Q) Q)
push_cases true true k j i P Q h e = ap (λ (xs : List ℕ). k ∷ xs) h ∙ ap (λ (a : ℕ). k ∷ (Q ++ a ∷ [])) e
push_cases true false k j i P Q h e = ap (λ (xs : List ℕ). k ∷ xs) h
push_cases false true k j i P Q h e = h ∙ ap (λ (a : ℕ). Q ++ a ∷ []) e
push_cases false false k j i P Q h e = h

pub places_push : (m k : ℕ) (pairs : List (Entry × ℕ)) (entry : Entry) (n : ℕ) → places_of_maker m k (pairs ++ (entry, n) ∷ []) ≡ cond (m == n) (places_of_maker m k pairs ++ (k + length pairs) ∷ []) (places_of_maker m k pairs)
places_push m k [] entry n = let same : k ≡ k + 0 = omega arith in ap (λ (j : ℕ). cond (m == n) (j ∷ []) []) same
places_push m k (pair ∷ pairs) entry n =
    push_cases (m == pair.1) (m == n) k (k + 1 + length pairs) (k + length (pair ∷ pairs)) (places_of_maker m (k + 1) (pairs ++ (entry, n) ∷ [])) (places_of_maker m (k + 1) pairs) (places_push m (k + 1) pairs entry n) (omega arith)

cond_le : (b : Bool) (x y z : ℕ) → x ≤ z → y ≤ z → cond b x y ≤ z
cond_le true x y z h g = h
cond_le false x y z h g = g

cond_at : {A : Type 0} (P : ℕ → A → Type 0) (m n : ℕ) (x y : A) (b : Bool) → (m == n) ≡ b → P n x → P m y → P m (cond b x y)
cond_at P m n x y true is here else = let same : n ≡ m = grind (arith, nat_tests) in subst (λ (i : ℕ). P i x) same here
cond_at P m n x y false is here else = else

-- ---- what an event does

-- behind the first k
pub drop_push : (k : ℕ) (pairs : List (Entry × ℕ)) (pair : Entry × ℕ) → k ≤ length pairs → drop k (pairs ++ pair ∷ []) ≡ drop k pairs ++ pair ∷ []
drop_push zero pairs pair le = refl
drop_push (suc k) [] pair le = absurd (omega (arith, le))
drop_push (suc k) (first ∷ pairs) pair le = drop_push k pairs pair (omega (arith, le))

pub drop_length : (k : ℕ) (pairs : List (Entry × ℕ)) → k ≤ length pairs → length pairs ≡ k + length (drop k pairs)
drop_length k pairs le = omega (arith, le, length-drop k pairs)

pub loaded_length : (loaded : List Entry) → length (loaded_pairs loaded) ≡ length loaded
loaded_length loaded = length-map {B = Entry × ℕ} loaded (λ (entry : Entry). (entry, 0))

pub drop_loaded : (loaded : List Entry) → drop (length loaded) (loaded_pairs loaded) ≡ []
drop_loaded [] = refl
drop_loaded (entry ∷ loaded) = drop_loaded loaded

module _ (facts : RealmFacts) (p : ℕ) (loaded : List Entry) (times : TimesNeverFall) where
  abbrev first : ℕ
  first = length loaded

  holds_made : (s : State) (n : ℕ) (entry : Entry) → IsNumber p n → IsNext facts (entries_of s.history) entry → Holds facts p loaded s → Holds facts p loaded (made s n entry)
  holds_made s n entry number next h =
      let opened : IsOpened facts (entries_of (s.history ++ (entry, n) ∷ [])) =
      subst (IsOpened facts) (sym (entries_of-push s.history (entry, n))) (opened_push facts (entries_of s.history) entry h.opened next) in
      let le : first ≤ length s.history = history_size facts p first s.history h.history in
      let rest : List (Entry × ℕ) = drop first s.history in
      record {
        begins = prefix_trans (loaded_pairs loaded) s.history (s.history ++ (entry, n) ∷ []) h.begins (prefix_push s.history (entry, n));
        history = history_push facts p first s.history (entry, n) h.history (next, number.0, number.1);
        opened = opened;
        times = times facts _ opened.held;
        own = λ m. ap (λ (o : List ℕ). cond (m == n) (o ++ length s.history ∷ []) o) (h.own m)
            ∙ ap (λ (j : ℕ). cond (m == n) (places_of_maker m first rest ++ j ∷ []) (places_of_maker m first rest)) (drop_length first s.history le)
            ∙ sym (places_push m first rest entry n) ∙ ap (places_of_maker m first) (sym (drop_push first s.history (entry, n) le));
        seen = λ m. let grown : length (s.history ++ (entry, n) ∷ []) ≡ length s.history + 1 = length-append s.history ((entry, n) ∷ []) in
            cond_le (m == n) (length s.history + 1) (s.seen m) (length (s.history ++ (entry, n) ∷ [])) (omega (arith, grown)) (omega (arith, grown, h.seen m));
        number = h.number;
      }

  holds_looked : (s : State) (n k : ℕ) → k ≤ length s.history → Holds facts p loaded s → Holds facts p loaded (looked s n k)
  holds_looked s n k le h =
      record { begins = h.begins; history = h.history; opened = h.opened; times = h.times; own = h.own; seen = λ m. cond_le (m == n) k (s.seen m) (length s.history) le (h.seen m); number = h.number }

  holds_looked_at : (s : State) (n k : ℕ) (places : Places) → k ≤ length s.history → places.number ≡ n → Holds facts p loaded s → Holds facts p loaded (looked_at s n k places)
  holds_looked_at s n k places le is h = record {
    begins = h.begins;
    history = h.history;
    opened = h.opened;
    times = h.times;
    own = h.own;
    seen = λ m. cond_le (m == n) k (s.seen m) (length s.history) le (h.seen m);
    number = λ m. cond_at (λ (i : ℕ) (q : Places). q.number ≡ i) m n places (s.places m) (m == n) refl is (h.number m);
  }

  stays : (s t : State) → t.places ≡ s.places → (m : ℕ) → PassGoesOn facts (s.places m) (t.places m)
  stays s t same m = subst (λ (f : ℕ → Places). PassGoesOn facts (s.places m) (f m)) (sym same) (no_request (s.places m))

  sees_more : (f : ℕ → ℕ) (m n k : ℕ) → f n ≤ k → f m ≤ cond (m == n) k (f m)
  sees_more f m n k le = cond_at (λ (i j : ℕ). f i ≤ j) m n k (f m) (m == n) refl le (le_refl (f m))

  grows_made : (s : State) (n : ℕ) (entry : Entry) → Holds facts p loaded s → Grows facts s (made s n entry)
  grows_made s n entry h = record {
    history = prefix_push s.history (entry, n);
    seen = λ m. sees_more s.seen m n (length s.history + 1) (omega (arith, h.seen n));
    places = stays s (made s n entry) refl;
  }

  grows_looked : (s : State) (n k : ℕ) → s.seen n ≤ k → Grows facts s (looked s n k)
  grows_looked s n k le = record { history = prefix_self s.history; seen = λ m. sees_more s.seen m n k le; places = stays s (looked s n k) refl }

  grows_looked_at : (s : State) (n k : ℕ) (places : Places) → s.seen n ≤ k → PassGoesOn facts (s.places n) places → Grows facts s (looked_at s n k places)
  grows_looked_at s n k places le on = record {
    history = prefix_self s.history;
    seen = λ m. sees_more s.seen m n k le;
    places = λ m. cond_at (λ (i : ℕ) (q : Places). PassGoesOn facts (s.places i) q) m n places (s.places m) (m == n) refl on (no_request (s.places m));
  }

  abbrev Keeps : State → State → Type 0
  Keeps s t = Holds facts p loaded t × Grows facts s t

  changed : (s : State) (n : ℕ) (entry : Option Entry) → IsNumber p n → ((e : Entry) → entry ≡ Some e → IsNext facts (entries_of s.history) e) → Holds facts p loaded s → Keeps s (made_any s n entry)
  changed s n None number next h = (holds_looked s n (length s.history) (le_refl _) h, grows_looked s n (length s.history) (h.seen n))
  changed s n (Some e) number next h = (holds_made s n e number (next e refl) h, grows_made s n e h)

  stepped : (s : State) (event : Event) (t : State) → Holds facts p loaded s → Step facts p s event t → Keeps s t
  stepped s (house n clock) t h done =
      let number = done.0 in let entry = done.2.0 in let due = done.2.1 in let is = done.2.2 in let before = done.1 in
      subst (Keeps s) (sym is) (holds_made s n entry number (kept clock before due) h, grows_made s n entry h)
  stepped s (change n x) t h done =
      let number = done.0 in let proper = done.1 in let changing = done.2 in let is = done.3 in
      let entry : Option Entry = (decide facts (entries_of s.history) x (s.places n)).entry in
      subst (Keeps s) (sym is)
      (changed s n entry number (λ (e : Entry) some. appended x proper (same_entry facts (entries_of s.history) x no_places (s.places n) changing ∙ some)) h)
  stepped s (read n x k) t h done =
      let number = done.0 in let may = done.1 in let is = done.2 in
      let goes = decide_goes_on facts (entries_of (take k s.history)) x (s.places n) in
      subst (Keeps s) (sym is) (
        holds_looked_at s n k (places_after facts s n x k) may.to (goes.number ∙ h.number n) h,
        grows_looked_at s n k (places_after facts s n x k) may.from (one_more (entries_of (take k s.history)) x (no_request (s.places n))),
      )
  stepped s (starved n x k left) t h done =
      let number = done.0 in let may = done.1 in let up = done.2 in let is = done.3 in
      subst (Keeps s) (sym is) (
        holds_looked_at s n k left may.to (up.number ∙ h.number n) h,
        grows_looked_at s n k left may.from (wants_memory (entries_of (take k s.history)) x left (no_request (s.places n)) up),
      )
  stepped s (learn n k) t h done =
      let number = done.0 in let le = done.1 in let is = done.2 in
      let top : max (s.seen n) k ≤ length s.history = omega (arith, h.seen n, le) in
      let low : s.seen n ≤ max (s.seen n) k = omega arith in
      subst (Keeps s) (sym is) (holds_looked s n (max (s.seen n) k) top h, grows_looked s n (max (s.seen n) k) low)

  goes_after : (from to last : Places) → PassGoesOn facts from to → PassGoesOn facts to last → PassGoesOn facts from last
  goes_after from to last on (no_request places) = on
  goes_after from to last on (one_more history x more) = one_more history x (goes_after from to _ on more)
  goes_after from to last on (wants_memory history x left more within) = wants_memory history x left (goes_after from to _ on more) within

  grows_self : (s : State) → Grows facts s s
  grows_self s = record { history = prefix_self s.history; seen = λ m. le_refl (s.seen m); places = stays s s refl }

  grows_trans : (s t u : State) → Grows facts s t → Grows facts t u → Grows facts s u
  grows_trans s t u a b = record {
    history = prefix_trans s.history t.history u.history a.history b.history;
    seen = λ m. le_trans (a.seen m) (b.seen m);
    places = λ m. goes_after (s.places m) (t.places m) (u.places m) (a.places m) (b.places m);
  }

  pub ran : (s : State) (events : List Event) (t : State) → Holds facts p loaded s → Runs facts p s events t → Keeps s t
  ran s [] t h is = subst (Keeps s) (sym is) (h, grows_self s)
  ran s (event ∷ events) t h (u, step, more) =
      let one = stepped s event u h step in
      let rest = ran u events t one.0 more in
      (rest.0, grows_trans s u t one.1 rest.1)

  module _ (opened : IsOpened facts loaded) where
    holds_start : Holds facts p loaded (start loaded)
    holds_start =
        let here : IsOpened facts (entries_of (loaded_pairs loaded)) = subst (IsOpened facts) (sym (entries_of-loaded loaded)) opened in
        record {
          begins = prefix_self (loaded_pairs loaded);
          history = history_loaded facts p first loaded opened.held refl;
          opened = here;
          times = times facts _ here.held;
          own = λ m. ap (places_of_maker m first) (sym (drop_loaded loaded));
          seen = λ m. omega (arith, loaded_length loaded);
          number = λ m. refl;
        }

    pub reached : (before : List Event) (s : State) → Runs facts p (start loaded) before s → Holds facts p loaded s
    reached before s run = (ran (start loaded) before s holds_start run).0

    pub goes : (before after : List Event) (s t : State) → Runs facts p (start loaded) before s → Runs facts p s after t → Holds facts p loaded t × Grows facts s t
    goes before after s t run more = ran s after t (reached before s run) more

pub always : TimesNeverFall → HoldsAlways
always times facts p loaded before after s t opened run more = goes facts p loaded times opened before after s t run more
