-- Each entry of a server's history is one worker's own.
use Rattle.std.proofs.Common.{◌≡◌, ℕ, zero, suc, ◌+◌, ◌≤◌, List, [], ◌∷◌, ◌++◌, length, map, All, refl, sym, ap, ap₂, ◌∙◌, subst, arith}
use mathlib.Core.List.{IsPrefix}
use Rattle.std.proofs.lemmas.List.{map-append}
use Rattle.std.proofs.lemmas.List.Sums.{sum-map, sum_by_push}
use Rattle.std.proofs.lemmas.List.Elements.{All-nil, All-cons, All-head, All-append}
use Rattle.account_steps.specs.declared.facts.RealmFacts.{RealmFacts}
use Rattle.account_steps.specs.History.{Entry}
use Rattle.published_account.proofs.Lists.{prefix_self}
use Rattle.publish_pass.specs.Pass.{Pass, fresh_pass, fresh_passes}
use Rattle.pass_laws.proofs.Makers.{own_of_calls, places_by, no_more_own, all_own, places_of_all, each_is_some_own}
use Rattle.kms_server.specs.Work.{WorkerState}
use Rattle.kms_server.specs.Crew.{Pairwise, FirstIsLongest, made_by}
use Rattle.session_laws.specs.Calls.{OwnWhatBearsTheirNumber, WorkersMadeAll}
use Rattle.session_laws.proofs.SessionCalls.{servers_are_calls}
use Rattle.session_laws.proofs.Workers.{Did, last_of, All-left, All-right}

made_more : (workers : List WorkerState) (worker : WorkerState) → made_by (workers ++ worker ∷ []) ≡ made_by workers + length worker.pass.own
made_more workers worker =
    let size : WorkerState → ℕ = λ w. length w.pass.own in
    sum-map size (workers ++ worker ∷ []) ∙ sum_by_push size workers worker ∙ ap (λ (n : ℕ). n + length worker.pass.own) (sym (sum-map size workers))

module _ (facts : RealmFacts) (passes : ℕ) (loaded : List Entry) (history : List (Entry × ℕ)) where
  abbrev k : ℕ
  k = length loaded

  abbrev IsWhole : WorkerState → Type 0
  IsWhole worker = worker.pass.own ≡ places_by k worker.pass.number history

  abbrev Front : WorkerState → Type 0
  Front worker = IsPrefix worker.pass.history history

  -- the last of the workers 1 to n + 1 made no more than there is of its number, and where it made as much, all of it
  record LastOne (n : ℕ) (workers : List WorkerState) : Type 0 where
    before : List WorkerState
    last : WorkerState
    are : workers ≡ before ++ last ∷ []
    each : Pairwise Did (fresh_passes facts passes loaded n) before
    fronts : All Front before
    number : last.pass.number ≡ suc n
    made : made_by workers ≡ made_by before + length last.pass.own
    few : length last.pass.own ≤ length (places_by k (suc n) history)
    all : length last.pass.own ≡ length (places_by k (suc n) history) → IsWhole last

  last_one : (n : ℕ) (workers : List WorkerState) → Pairwise Did (fresh_passes facts passes loaded (suc n)) workers → All Front workers → LastOne n workers
  last_one n workers did fronts =
      let l = last_of (fresh_passes facts passes loaded n) (fresh_pass facts passes loaded (suc n)) workers did in
      let parts : All Front (l.before ++ l.last ∷ []) = subst (All Front) l.are fronts in
      let front : IsPrefix l.last.pass.history history = All-head Front l.last [] (All-right Front l.before (l.last ∷ []) parts) in
      let owns = own_of_calls facts passes (suc n) loaded l.last.pass l.end in
      record {
        before = l.before;
        last = l.last;
        are = l.are;
        each = l.each;
        fronts = All-left Front l.before (l.last ∷ []) parts;
        number = owns.0;
        made = ap made_by l.are ∙ made_more l.before l.last;
        few = no_more_own k (suc n) l.last.pass history owns front;
        all = λ same. subst (λ (m : ℕ). l.last.pass.own ≡ places_by k m history) (sym owns.0) (all_own k (suc n) l.last.pass history owns front same);
      }

  -- they made no more than there is of their numbers
  no_more : (n : ℕ) (workers : List WorkerState) → Pairwise Did (fresh_passes facts passes loaded n) workers → All Front workers → made_by workers ≤ places_of_all k n history
  no_more zero [] did fronts = omega arith
  no_more zero (w ∷ ws) did fronts = elim did [ ]
  no_more (suc n) workers did fronts = let l = last_one n workers did fronts in omega (arith, no_more n l.before l.each l.fronts, l.few, l.made)

  -- where they made as much, each made all that has its number
  whole : (n : ℕ) (workers : List WorkerState) → Pairwise Did (fresh_passes facts passes loaded n) workers → All Front workers → made_by workers ≡ places_of_all k n history
      → All IsWhole workers
  whole zero [] did fronts same = All-nil IsWhole
  whole zero (w ∷ ws) did fronts same = elim did [ ]
  whole (suc n) workers did fronts same =
      let l = last_one n workers did fronts in
      let before : made_by l.before ≤ places_of_all k n history = no_more n l.before l.each l.fronts in
      let rest : All IsWhole l.before = whole n l.before l.each l.fronts (omega (arith, before, l.few, l.made, same)) in
      let last_is : IsWhole l.last = l.all (omega (arith, before, l.few, l.made, same)) in
      subst (All IsWhole) (sym l.are) (All-append IsWhole l.before (l.last ∷ []) rest (All-cons IsWhole l.last [] last_is (All-nil IsWhole)))

  abbrev number_of : WorkerState → ℕ
  number_of worker = worker.pass.number

  abbrev pass_number : Pass → ℕ
  pass_number pass = pass.number

  numbers : (n : ℕ) (workers : List WorkerState) → Pairwise Did (fresh_passes facts passes loaded n) workers → All Front workers
      → map number_of workers ≡ map pass_number (fresh_passes facts passes loaded n)
  numbers zero [] did fronts = refl
  numbers zero (w ∷ ws) did fronts = elim did [ ]
  numbers (suc n) workers did fronts =
      let l = last_one n workers did fronts in
      ap (map number_of) l.are ∙ map-append number_of l.before (l.last ∷ [])
      ∙ ap₂ (λ (xs : List ℕ) (x : ℕ). xs ++ x ∷ []) (numbers n l.before l.each l.fronts) l.number
      ∙ sym (map-append pass_number (fresh_passes facts passes loaded n) (fresh_pass facts passes loaded (suc n) ∷ []))

of_each : (facts : RealmFacts) (passes front : ℕ) (loaded : List Entry) (workers : List WorkerState) → Pairwise Did (fresh_passes facts passes loaded passes) workers
    → FirstIsLongest facts passes (length loaded) front workers → front ≡ made_by workers + length loaded
    → (map (λ worker. worker.pass.number) workers ≡ map (λ pass. pass.number) (fresh_passes facts passes loaded passes)) × OwnWhatBearsTheirNumber (length loaded) workers
of_each facts passes front loaded [] did longest made = absurd longest
of_each facts passes front loaded (first ∷ others) did longest made =
    let history = first.pass.history in
    let Begins : WorkerState → Type 0 = λ worker. IsPrefix worker.pass.history history in
    let fronts : All Begins (first ∷ others) = All-cons Begins first others (prefix_self history) longest.begins in
    let as_many : made_by (first ∷ others) ≡ places_of_all (length loaded) passes history =
    omega (arith, made, longest.size, each_is_some_own facts passes (length loaded) history longest.is_history) in
    (numbers facts passes loaded history passes (first ∷ others) did fronts, whole facts passes loaded history passes (first ∷ others) did fronts as_many)

pub workers_made_all : WorkersMadeAll
workers_made_all keeping first trust wanted history served kept old new of serves =
    of_each first.facts wanted.workers served.front first.entries serves.finishes.last (servers_are_calls keeping first trust wanted history served kept old new of serves)
    serves.finishes.longest serves.finishes.made
