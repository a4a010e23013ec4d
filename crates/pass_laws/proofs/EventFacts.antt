-- Each call of a pass is a list of events of the machine.
use Rattle.std.proofs.Common.{◌≡◌, ◌≢◌, inl, inr, ℕ, ◌+◌, ◌≤◌, ◌<◌, ◌==◌, Bool, true, false, cond, List, [], ◌∷◌, ◌++◌, length, take, Option, Some, None, All, refl, sym, ap, ◌∙◌, subst, arith, length-append}
use mathlib.Core.List.{IsPrefix}
use Rattle.std.proofs.lemmas.Bool.{false≢true}
use Rattle.std.proofs.lemmas.Bool.Decides.{nat_tests}
use Rattle.std.proofs.lemmas.List.{take-append-le, length-take-le}
use Rattle.std.proofs.lemmas.List.Elements.{All-nil, All-cons, All-append}
use Rattle.kms_names.specs.Moment.{year_10000}
use Rattle.kms_json.specs.declared.asks.Ask.{Ask}
use Rattle.kms_json.specs.declared.replies.Reply.{Reply}
use Rattle.kms_json.specs.Asks.{changes_account}
use Rattle.account_steps.specs.declared.facts.RealmFacts.{RealmFacts}
use Rattle.account_steps.specs.History.{Entry, housekeeping_of}
use Rattle.account_steps.specs.declared.places.Places.{Places}
use Rattle.account_steps.specs.Places.{IsUpTo}
use Rattle.account_core.specs.Decide.{decide, IsProper}
use Rattle.account_laws.specs.Laws.{IsOpened, TimesNeverFall}
use Rattle.published_account.specs.Pairs.{entries_of, loaded_pairs}
use Rattle.published_account.proofs.Lists.{prefix_self}
use Rattle.publish_pass.specs.Pass.{Pass, Meets, Learns, Reads, Wants, Misses, Decides, LeavesAtMost, making, making_any, keeping_house, at_places, fresh_pass}
use Rattle.pass_laws.specs.Machine.{State, Event, house, change, read as reading, starved, learn, start, made, made_any, looked, looked_at, IsNumber, MayRead, places_after, Step, Runs, Holds}
use Rattle.pass_laws.specs.Calls.{Call, read, wanted_to_read, missed, changed, wanted_to_change, kept_house, wanted_to_keep_house, learnt, changed_at_desk, kept_house_at_desk, Together, opened, looks, publishes}
use Rattle.pass_laws.specs.Events.{doer, Has, IsDoneBy, CallsAreEvents, AreOneRun, PassesAreTheMachine}
use Rattle.pass_laws.proofs.Kept.{ran, reached, loaded_length}

-- ---- numbers and beginnings

is_self : (n : ℕ) (b : Bool) → (n == n) ≡ b → b ≡ true
is_self n true is = refl
is_self n false is = absurd (false≢true (sym is ∙ grind (arith, nat_tests)))

self : (n : ℕ) → (n == n) ≡ true
self n = is_self n (n == n) refl

is_other : (m n : ℕ) (b : Bool) → (m == n) ≡ b → m ≢ n → b ≡ false
is_other m n true is apart = absurd (apart (grind (arith, nat_tests)))
is_other m n false is apart = refl

other_number : (m n : ℕ) → m ≢ n → (m == n) ≡ false
other_number m n apart = is_other m n (m == n) refl apart

same_number : (m n : ℕ) → (m == n) ≡ true → m ≡ n
same_number m n is = grind (arith, nat_tests)

chosen : {A : Type 0} (n : ℕ) (x y : A) → cond (n == n) x y ≡ x
chosen n x y = ap (λ (b : Bool). cond b x y) (self n)

passed : {A : Type 0} (m n : ℕ) (x y : A) → m ≢ n → cond (m == n) x y ≡ y
passed m n x y apart = ap (λ (b : Bool). cond b x y) (other_number m n apart)

take_front : {A : Type 0} (xs ys : List A) → IsPrefix xs ys → take (length xs) ys ≡ xs
take_front [] ys p = refl
take_front (x ∷ xs) [] p = absurd (cc (p.1))
take_front (x ∷ xs) (y ∷ ys) p =
    let heads : x ≡ y = cc (p.1) in
    let rest = take_front xs ys (p.0, cc (p.1)) in
    cc (heads, rest)

take_whole : {A : Type 0} (k : ℕ) (xs : List A) → k ≡ length xs → take k xs ≡ xs
take_whole k xs is = ap (λ (n : ℕ). take n xs) is ∙ take_front xs xs (prefix_self xs)

front_length : {A : Type 0} (xs ys : List A) → IsPrefix xs ys → length xs ≤ length ys
front_length xs ys (more, is) = omega (arith, length-append xs more, ap length is)

runs_append : (facts : RealmFacts) (p : ℕ) (s t u : State) (events more : List Event) → Runs facts p s events t → Runs facts p t more u → Runs facts p s (events ++ more) u
runs_append facts p s t u [] more is run = subst (λ (w : State). Runs facts p w more u) is run
runs_append facts p s t u (event ∷ events) more (w, step, rest) run = (w, step, runs_append facts p w t u events more rest run)

-- one event of a pass
done_by : (old : Pass) (event : Event) → doer event ≡ old.number → All (λ event. doer event ≡ old.number) (event ∷ [])
done_by old event by = All-cons (λ event. doer event ≡ old.number) event [] by (All-nil (λ event. doer event ≡ old.number))

-- ---- a pass that changes nothing but what it has seen, missed and used

abbrev moved : Pass → List (Entry × ℕ) → ℕ → Places → Pass
moved old history count places = record old { history = history; missed = count; places = places }

module _ (facts : RealmFacts) (p : ℕ) (loaded : List Entry) (times : TimesNeverFall) where
  abbrev Done : State → List (Entry × ℕ) → Pass → Pass → Type 0
  Done s published old new = IsDoneBy facts p s published old new

  seen_is : (s : State) (old : Pass) → Holds facts p loaded s → Has facts p s old → length old.history ≡ s.seen old.number
  seen_is s old h has = ap length has.history ∙ length-take-le (s.seen old.number) s.history (h.seen old.number)

  -- one event leads to what is seen and used
  looked_on : (s : State) (old : Pass) (history : List (Entry × ℕ)) (count : ℕ) (places : Places) (event : Event) → doer event ≡ old.number
      → Step facts p s event (looked_at s old.number (length history) places) → Has facts p s old → IsPrefix history s.history
      → Done s s.history old (moved old history count places)
  looked_on s old history count places event by step has front = record {
    events = event ∷ [];
    by_the_pass = done_by old event by;
    after = looked_at s old.number (length history) places;
    runs = (looked_at s old.number (length history) places, step, refl);
    is_published = refl;
    has = record {
      facts_are = has.facts_are;
      passes_are = has.passes_are;
      number = has.number;
      history = sym (take_front history s.history front) ∙ ap (λ (k : ℕ). take k s.history) (sym (chosen old.number (length history) (s.seen old.number)));
      own = has.own;
      places = sym (chosen old.number places (s.places old.number));
    };
    same_pass = refl;
    others = λ other apart is. record {
      facts_are = is.facts_are;
      passes_are = is.passes_are;
      number = is.number;
      history = is.history ∙ ap (λ (k : ℕ). take k s.history) (sym (passed other.number old.number (length history) (s.seen other.number) apart));
      own = is.own;
      places = is.places ∙ sym (passed other.number old.number places (s.places other.number) apart);
    };
  }

  -- learning, by an event
  learnt_on : (s : State) (old : Pass) (history : List (Entry × ℕ)) (count : ℕ) → Holds facts p loaded s → Has facts p s old → IsPrefix old.history history → IsPrefix history s.history
      → Done s s.history old (record old { history = history; missed = count })
  learnt_on s old history count h has on front = record {
    events = learn old.number (length history) ∷ [];
    by_the_pass = done_by old (learn old.number (length history)) refl;
    after = looked s old.number (length history);
    runs = (
      looked s old.number (length history),
      (has.number, front_length history s.history front, ap (λ (k : ℕ). looked s old.number k) (let le = front_length old.history history on in omega (arith, le, seen_is s old h has))),
      refl,
    );
    is_published = refl;
    has = record {
      facts_are = has.facts_are;
      passes_are = has.passes_are;
      number = has.number;
      history = sym (take_front history s.history front) ∙ ap (λ (k : ℕ). take k s.history) (sym (chosen old.number (length history) (s.seen old.number)));
      own = has.own;
      places = has.places;
    };
    same_pass = refl;
    others = λ other apart is. record {
      facts_are = is.facts_are;
      passes_are = is.passes_are;
      number = is.number;
      history = is.history ∙ ap (λ (k : ℕ). take k s.history) (sym (passed other.number old.number (length history) (s.seen other.number) apart));
      own = is.own;
      places = is.places;
    };
  }

  learns_done : (s : State) (old new : Pass) → Holds facts p loaded s → Has facts p s old → Learns old new → IsPrefix new.history s.history → Done s s.history old new
  learns_done s old new h has learns front = subst (Done s s.history old) (sym learns.others) (learnt_on s old new.history old.missed h has learns.history front)

  misses_done : (s : State) (old new : Pass) → Has facts p s old → Misses old new → Done s s.history old new
  misses_done s old new has misses = subst (Done s s.history old) (sym misses.others) (record {
    events = [];
    by_the_pass = All-nil (λ event. doer event ≡ old.number);
    after = s;
    runs = refl;
    is_published = refl;
    has = record { facts_are = has.facts_are; passes_are = has.passes_are; number = has.number; history = has.history; own = has.own; places = has.places };
    same_pass = refl;
    others = λ other apart is. is;
  })

  -- ---- reads

  may_read : (s : State) (old : Pass) (x : Ask) (history : List (Entry × ℕ)) → Holds facts p loaded s → Has facts p s old → IsProper old.facts x → changes_account x.body ≡ false
      → IsPrefix old.history history → IsPrefix history s.history → MayRead facts s old.number x (length history)
  may_read s old x history h has proper reads on front = record {
    proper = subst (λ (f : RealmFacts). IsProper f x) has.facts_are proper;
    reads = reads;
    from = let le = front_length old.history history on in omega (arith, le, seen_is s old h has);
    to = front_length history s.history front;
  }

  -- what a decision at what was met uses is what the event uses
  used_there : (s : State) (old met : Pass) (x : Ask) → Has facts p s old → Meets old met → IsPrefix met.history s.history
      → (decide met.facts (entries_of met.history) x met.places).places ≡ places_after facts s old.number x (length met.history)
  used_there s old met x has seen front =
      ap (λ (f : RealmFacts). (decide f (entries_of met.history) x met.places).places) (ap (λ (q : Pass). q.facts) seen.others ∙ has.facts_are)
      ∙ ap (λ (h : List (Entry × ℕ)). (decide facts (entries_of h) x met.places).places) (sym (take_front met.history s.history front))
      ∙ ap (λ (q : Places). (decide facts (entries_of (take (length met.history) s.history)) x q).places) (ap (λ (q : Pass). q.places) seen.others ∙ has.places)

  met_is : (old met new : Pass) (places : Places) → Meets old met → new ≡ at_places met places → new ≡ moved old met.history met.missed places
  met_is old met new places seen used = used ∙ ap (λ (q : Pass). at_places q places) seen.others

  reads_done : (s : State) (old new : Pass) (x : Ask) (reply : Reply) → Holds facts p loaded s → Has facts p s old → IsProper old.facts x → changes_account x.body ≡ false
      → (is : Reads old x reply new) → IsPrefix is.met.history s.history → Done s s.history old new
  reads_done s old new x reply h has proper which is front =
      let left : Places = places_after facts s old.number x (length is.met.history) in
      let used : new ≡ at_places is.met left = is.used ∙ ap (at_places is.met) (used_there s old is.met x has is.seen front) in
      subst (Done s s.history old) (sym (met_is old is.met new left is.seen used))
      (looked_on s old is.met.history is.met.missed left (reading old.number x (length is.met.history)) refl
      (has.number, may_read s old x is.met.history h has proper which is.seen.history front, refl) has front)

  wants_done : (s : State) (old new : Pass) (x : Ask) → Holds facts p loaded s → Has facts p s old → IsProper old.facts x → changes_account x.body ≡ false
      → (is : Wants old x new) → IsPrefix is.met.history s.history → Done s s.history old new
  wants_done s old new x h has proper which is front =
      let from : is.met.places ≡ s.places old.number = ap (λ (q : Pass). q.places) is.seen.others ∙ has.places in
      let up : IsUpTo (s.places old.number) is.places (places_after facts s old.number x (length is.met.history)) =
      subst (λ (q : Places). IsUpTo q is.places (places_after facts s old.number x (length is.met.history))) from
      (subst (IsUpTo is.met.places is.places) (used_there s old is.met x has is.seen front) is.at_most) in
      subst (Done s s.history old) (sym (met_is old is.met new is.places is.seen is.used))
      (looked_on s old is.met.history is.met.missed is.places (starved old.number x (length is.met.history) is.places) refl
      (has.number, may_read s old x is.met.history h has proper which is.seen.history front, up, refl) has front)

  -- ---- entries

  -- at a pass that holds all that is published
  made_on : (s : State) (old : Pass) (entry : Entry) (event : Event) → doer event ≡ old.number → Step facts p s event (made s old.number entry) → Holds facts p loaded s → Has facts p s old
      → old.history ≡ s.history → Done s (making old entry).history old (making old entry)
  made_on s old entry event by step h has whole =
      let longer : length (s.history ++ (entry, old.number) ∷ []) ≡ length s.history + 1 = length-append s.history ((entry, old.number) ∷ []) in
      record {
        events = event ∷ [];
        by_the_pass = done_by old event by;
        after = made s old.number entry;
        runs = (made s old.number entry, step, refl);
        is_published = ap (λ (pairs : List (Entry × ℕ)). pairs ++ (entry, old.number) ∷ []) (sym whole);
        has = record {
          facts_are = has.facts_are;
          passes_are = has.passes_are;
          number = has.number;
          history = ap (λ (pairs : List (Entry × ℕ)). pairs ++ (entry, old.number) ∷ []) whole
              ∙ sym (take_whole (length s.history + 1) (s.history ++ (entry, old.number) ∷ []) (sym longer))
              ∙ ap (λ (k : ℕ). take k (s.history ++ (entry, old.number) ∷ [])) (sym (chosen old.number (length s.history + 1) (s.seen old.number)));
          own = ap (λ (own : List ℕ). own ++ length old.history ∷ []) has.own
              ∙ ap (λ (pairs : List (Entry × ℕ)). s.own old.number ++ length pairs ∷ []) whole
              ∙ sym (chosen old.number (s.own old.number ++ length s.history ∷ []) (s.own old.number));
          places = has.places;
        };
        same_pass = refl;
        others = λ other apart is. record {
          facts_are = is.facts_are;
          passes_are = is.passes_are;
          number = is.number;
          history = is.history ∙ sym (take-append-le (s.seen other.number) s.history ((entry, old.number) ∷ []) (h.seen other.number))
              ∙ ap (λ (k : ℕ). take k (s.history ++ (entry, old.number) ∷ [])) (sym (passed other.number old.number (length s.history + 1) (s.seen other.number) apart));
          own = is.own ∙ sym (passed other.number old.number (s.own other.number ++ length s.history ∷ []) (s.own other.number) apart);
          places = is.places;
        };
      }

  -- nothing is done
  rests : (s : State) (old : Pass) → Has facts p s old → old.history ≡ s.history → Done s old.history old old
  rests s old has whole = record {
    events = [];
    by_the_pass = All-nil (λ event. doer event ≡ old.number);
    after = s;
    runs = refl;
    is_published = sym whole;
    has = has;
    same_pass = refl;
    others = λ other apart is. is;
  }

  house_by : (s : State) (old : Pass) (clock : ℕ) (due : Option Entry) → clock < year_10000 → Holds facts p loaded s → Has facts p s old → old.history ≡ s.history
      → housekeeping_of (entries_of old.history) clock ≡ due → Done s (making_any old due).history old (making_any old due)
  house_by s old clock None before h has whole is = rests s old has whole
  house_by s old clock (Some entry) before h has whole is =
      made_on s old entry (house old.number clock) refl
      (has.number, before, (entry, ap (λ (pairs : List (Entry × ℕ)). housekeeping_of (entries_of pairs) clock) (sym whole) ∙ is, refl)) h has whole

  house_done : (s : State) (old : Pass) (clock : ℕ) → clock < year_10000 → Holds facts p loaded s → Has facts p s old → old.history ≡ s.history
      → Done s (keeping_house old clock).history old (keeping_house old clock)
  house_done s old clock before h has whole = house_by s old clock (housekeeping_of (entries_of old.history) clock) before h has whole refl

  change_by : (s : State) (old : Pass) (x : Ask) (entry : Option Entry) → IsProper facts x → changes_account x.body ≡ true → Holds facts p loaded s → Has facts p s old → old.history ≡ s.history
      → (decide facts (entries_of s.history) x (s.places old.number)).entry ≡ entry → Done s (making_any old entry).history old (making_any old entry)
  change_by s old x None proper changing h has whole is = rests s old has whole
  change_by s old x (Some entry) proper changing h has whole is =
      made_on s old entry (change old.number x) refl (has.number, proper, changing, ap (made_any s old.number) (sym is)) h has whole

  decided_there : (s : State) (old : Pass) (x : Ask) → Has facts p s old → old.history ≡ s.history
      → (decide old.facts (entries_of old.history) x old.places).entry ≡ (decide facts (entries_of s.history) x (s.places old.number)).entry
  decided_there s old x has whole =
      ap (λ (f : RealmFacts). (decide f (entries_of old.history) x old.places).entry) has.facts_are
      ∙ ap (λ (pairs : List (Entry × ℕ)). (decide facts (entries_of pairs) x old.places).entry) whole
      ∙ ap (λ (q : Places). (decide facts (entries_of s.history) x q).entry) has.places

  change_done : (s : State) (old : Pass) (x : Ask) (reply : Reply) (new : Pass) → IsProper facts x → changes_account x.body ≡ true → Holds facts p loaded s → Has facts p s old → old.history ≡ s.history
      → Decides old x reply new → Done s new.history old new
  change_done s old x reply new proper changing h has whole is =
      let entry : Option Entry = (decide facts (entries_of s.history) x (s.places old.number)).entry in
      let same : new ≡ making_any old entry = is.made ∙ ap (making_any old) (decided_there s old x has whole) in
      subst (λ (q : Pass). Done s q.history old q) (sym same) (change_by s old x entry proper changing h has whole refl)

  -- ---- one after another

  after_holds : {s : State} {published : List (Entry × ℕ)} {old new : Pass} → Holds facts p loaded s → (done : Done s published old new) → Holds facts p loaded done.after
  after_holds {s = s} h done = (ran facts p loaded times s done.events done.after h done.runs).0

  by_same : (n m : ℕ) → n ≡ m → (events : List Event) → All (λ event. doer event ≡ n) events → All (λ event. doer event ≡ m) events
  by_same n m same events all = subst (λ (i : ℕ). All (λ event. doer event ≡ i) events) same all

  then_done : {s : State} {published more : List (Entry × ℕ)} {old mid new : Pass} → (first : Done s published old mid) → Done first.after more mid new → Done s more old new
  then_done {s = s} {old = old} {mid = mid} first second = record {
    events = first.events ++ second.events;
    by_the_pass = All-append (λ event. doer event ≡ old.number) first.events second.events first.by_the_pass (by_same mid.number old.number first.same_pass second.events second.by_the_pass);
    after = second.after;
    runs = runs_append facts p s first.after second.after first.events second.events first.runs second.runs;
    is_published = second.is_published;
    has = second.has;
    same_pass = second.same_pass ∙ first.same_pass;
    others = λ other apart is. second.others other (λ same. apart (same ∙ first.same_pass)) (first.others other apart is);
  }

  -- ---- what a call does beyond learning

  writes : (s : State) (met : Pass) → Holds facts p loaded s → Has facts p s met → met.history ≡ s.history → (x : Ask) (reply : Reply) (new : Pass) → IsProper facts x → changes_account x.body ≡ true
      → Decides (keeping_house met x.moment) x reply new → Done s new.history met new
  writes s met h has whole x reply new proper changing is =
      let first = house_done s met x.moment proper.moment h has whole in
      then_done first (change_done first.after (keeping_house met x.moment) x reply new proper changing (after_holds h first) first.has (sym first.is_published) is)

  leaves : (s : State) (met new : Pass) (clock : ℕ) → clock < year_10000 → Holds facts p loaded s → Has facts p s met → met.history ≡ s.history → LeavesAtMost met clock new → Done s new.history met new
  leaves s met new clock before h has whole (inl same) = subst (λ (q : Pass). Done s q.history met q) (sym same) (rests s met has whole)
  leaves s met new clock before h has whole (inr same) = subst (λ (q : Pass). Done s q.history met q) (sym same) (house_done s met clock before h has whole)

  -- it learns all that is published first
  learns_whole : (s : State) (old met : Pass) → Holds facts p loaded s → Has facts p s old → Learns old met → met.history ≡ s.history → Done s s.history old met
  learns_whole s old met h has learns whole = learns_done s old met h has learns (subst (IsPrefix met.history) whole (prefix_self met.history))

  learns_then : (s : State) (old met new : Pass) (published : List (Entry × ℕ)) → Holds facts p loaded s → Has facts p s old → Learns old met → met.history ≡ s.history
      → ((t : State) → Holds facts p loaded t → Has facts p t met → met.history ≡ t.history → Done t published met new) → Done s published old new
  learns_then s old met new published h has learns whole more =
      let first = learns_whole s old met h has learns whole in
      then_done first (more first.after (after_holds h first) first.has (whole ∙ sym first.is_published))

  -- ---- where nothing is appended

  longer_not : {A : Type 0} (xs : List A) (x : A) → xs ++ x ∷ [] ≡ xs → ⊥
  longer_not xs x is = omega (arith, length-append xs (x ∷ []), ap length is)

  none_made : (old : Pass) (entry : Option Entry) → (making_any old entry).history ≡ old.history → making_any old entry ≡ old
  none_made old None is = refl
  none_made old (Some entry) is = absurd (longer_not old.history (entry, old.number) is)

  grown : (old : Pass) (entry : Option Entry) → length old.history ≤ length (making_any old entry).history
  grown old None = omega arith
  grown old (Some entry) = omega (arith, length-append old.history ((entry, old.number) ∷ []))

  none_by_size : (old : Pass) (entry : Option Entry) → length (making_any old entry).history ≤ length old.history → making_any old entry ≡ old
  none_by_size old None le = refl
  none_by_size old (Some entry) le = absurd (omega (arith, length-append old.history ((entry, old.number) ∷ []), le))

  nothing_decided : (met : Pass) (x : Ask) (reply : Reply) (new : Pass) → Decides (keeping_house met x.moment) x reply new → new.history ≡ met.history → new ≡ met
  nothing_decided met x reply new is same =
      let due : Option Entry = housekeeping_of (entries_of met.history) x.moment in
      let kept : Pass = keeping_house met x.moment in
      let entry : Option Entry = (decide kept.facts (entries_of kept.history) x kept.places).entry in
      let size : length (making_any kept entry).history ≡ length met.history = ap (λ (q : Pass). length q.history) (sym is.made) ∙ ap length same in
      let more : length kept.history ≤ length (making_any kept entry).history = grown kept entry in
      let first : kept ≡ met = none_by_size met due (omega (arith, size, more)) in
      let least : length met.history ≤ length kept.history = grown met due in
      is.made ∙ none_by_size kept entry (omega (arith, size, least)) ∙ first

  nothing_left : (met new : Pass) (clock : ℕ) → LeavesAtMost met clock new → new.history ≡ met.history → new ≡ met
  nothing_left met new clock (inl same) is = same
  nothing_left met new clock (inr same) is = same ∙ none_made met (housekeeping_of (entries_of met.history) clock) (ap (λ (q : Pass). q.history) (sym same) ∙ is)

  stays_done : (s : State) (old : Pass) → Has facts p s old → Done s s.history old old
  stays_done s old has = record {
    events = [];
    by_the_pass = All-nil (λ event. doer event ≡ old.number);
    after = s;
    runs = refl;
    is_published = refl;
    has = has;
    same_pass = refl;
    others = λ other apart is. is;
  }

  -- ---- a call by which nothing is published

  at_front : (s : State) (history met : List (Entry × ℕ)) → met ≡ history → IsPrefix met s.history → IsPrefix history s.history
  at_front s history met same front = subst (λ (pairs : List (Entry × ℕ)). IsPrefix pairs s.history) same front

  only_learnt : (s : State) (old met new : Pass) → Holds facts p loaded s → Has facts p s old → Learns old met → IsPrefix met.history s.history → new ≡ met → Done s s.history old new
  only_learnt s old met new h has learns front same = subst (Done s s.history old) (sym same) (learns_done s old met h has learns front)

  call_looks : (s : State) (old : Pass) (met : List (Entry × ℕ)) (new : Pass) → Holds facts p loaded s → Has facts p s old → Call old met new → IsPrefix met s.history → new.history ≡ met
      → Done s s.history old new
  call_looks s old met new h has (read x reply proper which is at) front same = reads_done s old new x reply h has proper which is (at_front s is.met.history met at front)
  call_looks s old met new h has (wanted_to_read x proper which is at) front same = wants_done s old new x h has proper which is (at_front s is.met.history met at front)
  call_looks s old met new h has (missed is at) front same = misses_done s old new has is
  call_looks s old met new h has (changed x reply proper which is at) front same =
      only_learnt s old is.met new h has is.seen (at_front s is.met.history met at front) (nothing_decided is.met x reply new is.decides (same ∙ at))
  call_looks s old met new h has (wanted_to_change x proper is at) front same =
      only_learnt s old is.met new h has is.seen (at_front s is.met.history met at front) (nothing_left is.met new x.moment is.left (same ∙ at))
  call_looks s old met new h has (kept_house clock before is at) front same =
      only_learnt s old is.met new h has is.seen (at_front s is.met.history met at front) (nothing_left is.met new clock (inr is.kept) (same ∙ at))
  call_looks s old met new h has (wanted_to_keep_house clock before is at) front same =
      only_learnt s old is.met new h has is.seen (at_front s is.met.history met at front) (nothing_left is.met new clock is.left (same ∙ at))
  call_looks s old met new h has (learnt is at) front same = learns_done s old new h has is (at_front s new.history met at front)
  call_looks s old met new h has (changed_at_desk x reply proper which is at) front same =
      subst (Done s s.history old) (sym (nothing_decided old x reply new is (same ∙ at))) (stays_done s old has)
  call_looks s old met new h has (kept_house_at_desk clock before is at) front same =
      subst (Done s s.history old) (sym (nothing_left old new clock is (same ∙ at))) (stays_done s old has)

  -- ---- a call that met all that is published

  whole_front : (s : State) (history : List (Entry × ℕ)) → history ≡ s.history → IsPrefix history s.history
  whole_front s history same = subst (IsPrefix history) same (prefix_self history)

  is_published_as : (s : State) (old new : Pass) → new.history ≡ s.history → Done s s.history old new → Done s new.history old new
  is_published_as s old new same done = subst (λ (pairs : List (Entry × ℕ)). Done s pairs old new) (sym same) done

  proper_there : (s : State) (old : Pass) (x : Ask) → Has facts p s old → IsProper old.facts x → IsProper facts x
  proper_there s old x has proper = subst (λ (f : RealmFacts). IsProper f x) has.facts_are proper

  call_publishes : (s : State) (old : Pass) (met : List (Entry × ℕ)) (new : Pass) → Holds facts p loaded s → Has facts p s old → Call old met new → met ≡ s.history → Done s new.history old new
  call_publishes s old met new h has (read x reply proper which is at) all =
      is_published_as s old new (ap (λ (q : Pass). q.history) is.used ∙ sym at ∙ all) (reads_done s old new x reply h has proper which is (whole_front s is.met.history (sym at ∙ all)))
  call_publishes s old met new h has (wanted_to_read x proper which is at) all =
      is_published_as s old new (ap (λ (q : Pass). q.history) is.used ∙ sym at ∙ all) (wants_done s old new x h has proper which is (whole_front s is.met.history (sym at ∙ all)))
  call_publishes s old met new h has (missed is at) all = is_published_as s old new (ap (λ (q : Pass). q.history) is.others ∙ sym at ∙ all) (misses_done s old new has is)
  call_publishes s old met new h has (changed x reply proper which is at) all =
      learns_then s old is.met new new.history h has is.seen (sym at ∙ all)
      (λ t th thas whole. writes t is.met th thas whole x reply new (proper_there s old x has proper) which is.decides)
  call_publishes s old met new h has (wanted_to_change x proper is at) all =
      learns_then s old is.met new new.history h has is.seen (sym at ∙ all) (λ t th thas whole. leaves t is.met new x.moment proper.moment th thas whole is.left)
  call_publishes s old met new h has (kept_house clock before is at) all =
      learns_then s old is.met new new.history h has is.seen (sym at ∙ all) (λ t th thas whole. leaves t is.met new clock before th thas whole (inr is.kept))
  call_publishes s old met new h has (wanted_to_keep_house clock before is at) all =
      learns_then s old is.met new new.history h has is.seen (sym at ∙ all) (λ t th thas whole. leaves t is.met new clock before th thas whole is.left)
  call_publishes s old met new h has (learnt is at) all =
      is_published_as s old new (sym at ∙ all) (learns_done s old new h has is (whole_front s new.history (sym at ∙ all)))
  call_publishes s old met new h has (changed_at_desk x reply proper which is at) all =
      writes s old h has (sym at ∙ all) x reply new (proper_there s old x has proper) which is
  call_publishes s old met new h has (kept_house_at_desk clock before is at) all = leaves s old new clock before h has (sym at ∙ all) is

  -- ---- all passes together

  not_same : (m n : ℕ) → (m == n) ≡ false → m ≢ n
  not_same m n is same = false≢true (sym is ∙ ap (λ (k : ℕ). m == k) (sym same) ∙ self m)

  module _ (passes : ℕ → Pass) (published later : List (Entry × ℕ)) (run : AreOneRun facts p loaded passes published) (n : ℕ) (new : Pass) (done : Done run.after later (passes n) new) where
    numbers : (m : ℕ) (b : Bool) → (m == n) ≡ b → (cond b new (passes m)).number ≡ m
    numbers m true is = done.same_pass ∙ run.number n ∙ sym (same_number m n is)
    numbers m false is = run.number m

    each_has : (m : ℕ) (b : Bool) → (m == n) ≡ b → IsNumber p m → Has facts p done.after (cond b new (passes m))
    each_has m true is number = done.has
    each_has m false is number =
        done.others (passes m) (λ same. not_same m n is (sym (run.number m) ∙ same ∙ run.number n)) (run.has m number)

    joined : AreOneRun facts p loaded (λ m. cond (m == n) new (passes m)) later
    joined = record {
      events = run.events ++ done.events;
      after = done.after;
      runs = runs_append facts p (start loaded) run.after done.after run.events done.events run.runs done.runs;
      is_published = done.is_published;
      holds = after_holds run.holds done;
      number = λ m. numbers m (m == n) refl;
      has = λ m number. each_has m (m == n) refl number;
    }

  begins_with : (n : ℕ) → IsNumber p n → Has facts p (start loaded) (fresh_pass facts p loaded n)
  begins_with n number = record {
    facts_are = refl;
    passes_are = refl;
    number = number;
    history = sym (take_whole (length loaded) (loaded_pairs loaded) (sym (loaded_length loaded)));
    own = refl;
    places = refl;
  }

  one_run : (passes : ℕ → Pass) (published : List (Entry × ℕ)) → IsOpened facts loaded → Together facts p loaded passes published → AreOneRun facts p loaded passes published
  one_run passes published is opened = record {
    events = [];
    after = start loaded;
    runs = refl;
    is_published = refl;
    holds = reached facts p loaded times is [] (start loaded) refl;
    number = λ n. refl;
    has = begins_with;
  }
  one_run passes published is (looks {passes = old} n met new so_far number call same front) =
      let run = one_run old published is so_far in
      let done = call_looks run.after (old n) met new run.holds (run.has n number) call (subst (IsPrefix met) (sym run.is_published) front) same in
      let exact : Done run.after published (old n) new = subst (λ (pairs : List (Entry × ℕ)). Done run.after pairs (old n) new) run.is_published done in
      joined old published published run n new exact
  one_run passes published is (publishes {passes = old} {published = before} n met new so_far number call all) =
      let run = one_run old before is so_far in
      let done = call_publishes run.after (old n) met new run.holds (run.has n number) call (all ∙ sym run.is_published) in
      joined old before new.history run n new done

pub calls_are_events : TimesNeverFall → CallsAreEvents
calls_are_events times facts p loaded before s old new met is run has call =
    let h = reached facts p loaded times is before s run in
    (λ front same. call_looks facts p loaded times s old met new h has call front same, λ all. call_publishes facts p loaded times s old met new h has call all)

pub passes_are_the_machine : TimesNeverFall → PassesAreTheMachine
passes_are_the_machine times facts p loaded passes published is together = one_run facts p loaded times passes published is together
