-- The order of the calls of a server's workers.
use Rattle.std.proofs.Common.{◌≡◌, ℕ, zero, suc, ◌<◌, ◌==◌, cond, List, [], ◌∷◌, ◌++◌, length, map, drop, All, refl, sym, ap, ap₂, ◌∙◌, subst, arith}
use mathlib.Core.List.{IsPrefix}
use Rattle.std.proofs.lemmas.List.{map-append}
use Rattle.std.proofs.lemmas.List.Elements.{All-head, All-cons}
use Rattle.account_steps.specs.declared.facts.RealmFacts.{RealmFacts}
use Rattle.account_steps.specs.History.{Entry}
use Rattle.published_account.specs.Pairs.{IsHistory, loaded_pairs}
use Rattle.published_account.proofs.Lists.{prefix_self, prefix_trans}
use Rattle.publish_pass.specs.Pass.{Pass, fresh_pass, fresh_passes}
use Rattle.pass_laws.specs.Machine.{IsNumber, places_of_maker}
use Rattle.pass_laws.specs.Events.{PassesAreTheMachine}
use Rattle.pass_laws.specs.Orders.{steps_of, steps_in}
use Rattle.pass_laws.proofs.Orders.{At, Done, Ran, ran_none, ran_of, ran_number, fresh_begins, is_whole, ordered, at_one, is_same, is_other}
use Rattle.kms_server.specs.Work.{WorkerState}
use Rattle.kms_server.specs.Crew.{Pairwise, none, FirstHolds, FirstIsLongest}
use Rattle.session_laws.specs.Calls.{OwnWhatBearsTheirNumber, WorkersMadeAll, steps_by, RanTogether, ServersAreOneRun}
use Rattle.session_laws.proofs.Workers.{Did, last_of, All-left, All-right}

module _ (facts : RealmFacts) (p : ℕ) (loaded : List Entry) where
  abbrev fresh : ℕ → Pass
  fresh n = fresh_pass facts p loaded n

  -- what each of the workers 1 to n did, by its number
  record ByNumber (n : ℕ) (workers : List WorkerState) (did : Pairwise Did (fresh_passes facts p loaded n) workers) : Type 1 where
    at : ℕ → At
    ran : (m : ℕ) → Ran (fresh m) (at m)
    passes : (f : ℕ → Pass) → ((m : ℕ) → IsNumber n m → f m ≡ (at m).pass) → map (λ first. f first.number) (fresh_passes facts p loaded n) ≡ map (λ worker. worker.pass) workers
    steps : (g : ℕ → List Done) → ((m : ℕ) → IsNumber n m → g m ≡ (at m).steps) → map (λ first. g first.number) (fresh_passes facts p loaded n) ≡ steps_by did
    each : (P : Pass → Type 0) → All (λ worker. P worker.pass) workers → (m : ℕ) → IsNumber n m → P (at m).pass

  by_number : (n : ℕ) (workers : List WorkerState) (did : Pairwise Did (fresh_passes facts p loaded n) workers) → ByNumber n workers did
  by_number zero [] none = record {
    at = λ m. record { pass = fresh m; steps = [] };
    ran = λ m. ran_none;
    passes = λ f are. refl;
    steps = λ g are. refl;
    each = λ P all m is. absurd (omega (arith, is.0, is.1));
  }
  by_number zero (w ∷ ws) h = elim h [ ]
  by_number (suc n) workers did =
      let l = last_of (fresh_passes facts p loaded n) (fresh (suc n)) workers did in
      let earlier = by_number n l.before l.each in
      let here : At = record { pass = l.last.pass; steps = steps_of l.end } in
      let ran_here : Ran (fresh (suc n)) here = ran_of l.end in
      let at : ℕ → At = λ m. cond (m == suc n) here (earlier.at m) in
      let at_last : at (suc n) ≡ here = is_same (suc n) (suc n) here (earlier.at (suc n)) refl in
      let at_earlier : (m : ℕ) → IsNumber n m → at m ≡ earlier.at m = λ m is. is_other m (suc n) here (earlier.at m) (λ same. absurd (omega (arith, same, is.1))) in
      let some : IsNumber (suc n) (suc n) = (omega arith, omega arith) in
      let more : (m : ℕ) → IsNumber n m → IsNumber (suc n) m = λ m is. (is.0, omega (arith, is.1)) in
      record {
        at = at;
        ran = λ m. at_one (λ (a : At). Ran (fresh m) a) m (suc n) here (earlier.at m) (λ same. subst (λ (i : ℕ). Ran (fresh i) here) (sym same) ran_here) (λ apart. earlier.ran m);
        passes = λ f are. map-append (λ first. f first.number) (fresh_passes facts p loaded n) (fresh (suc n) ∷ [])
            ∙ ap₂ (λ (xs : List Pass) (x : Pass). xs ++ x ∷ []) (earlier.passes f (λ m is. are m (more m is) ∙ ap (λ (a : At). a.pass) (at_earlier m is)))
            (are (suc n) some ∙ ap (λ (a : At). a.pass) at_last)
            ∙ sym (map-append (λ worker. worker.pass) l.before (l.last ∷ [])) ∙ ap (map (λ worker. worker.pass)) (sym l.are);
        steps = λ g are. map-append (λ first. g first.number) (fresh_passes facts p loaded n) (fresh (suc n) ∷ [])
            ∙ ap₂ (λ (xs : List (List Done)) (x : List Done). xs ++ x ∷ []) (earlier.steps g (λ m is. are m (more m is) ∙ ap (λ (a : At). a.steps) (at_earlier m is)))
            (are (suc n) some ∙ ap (λ (a : At). a.steps) at_last)
            ∙ sym l.steps;
        each = λ P all m is.
            let Q : WorkerState → Type 0 = λ worker. P worker.pass in
            let both_parts : All Q (l.before ++ l.last ∷ []) = subst (All Q) l.are all in
            at_one (λ (a : At). P a.pass) m (suc n) here (earlier.at m) (λ same. All-head Q l.last [] (All-right Q l.before (l.last ∷ []) both_parts))
            (λ apart. earlier.each P (All-left Q l.before (l.last ∷ []) both_parts) m (is.0, omega (arith, is.1, apart)));
      }

  some_pass : (n : ℕ) (history : List (Entry × ℕ)) (workers : List WorkerState) → Pairwise Did (fresh_passes facts p loaded n) workers → FirstHolds history workers → 0 < n
  some_pass zero history [] none holds = absurd holds
  some_pass zero history (w ∷ ws) did holds = elim did [ ]
  some_pass (suc n) history workers did holds = omega arith

  ran_together : (history : List (Entry × ℕ)) (workers : List WorkerState) (did : Pairwise Did (fresh_passes facts p loaded p) workers) → FirstHolds history workers
      → IsHistory facts p (length loaded) history → All (λ worker. IsPrefix worker.pass.history history) workers
      → All (λ worker. worker.pass.own ≡ places_of_maker worker.pass.number (length loaded) (drop (length loaded) history)) workers
      → PassesAreTheMachine → RanTogether facts loaded p workers did
  ran_together history workers did holds is begin own machine =
      let all = by_number p workers did in
      let Begins : Pass → Type 0 = λ pass. IsPrefix pass.history history in
      let Owns : Pass → Type 0 = λ pass. pass.own ≡ places_of_maker pass.number (length loaded) (drop (length loaded) history) in
      let begins : (n : ℕ) → IsNumber p n → IsPrefix (all.at n).pass.history history = λ n number. all.each Begins begin n number in
      let owns : (n : ℕ) → IsNumber p n → (all.at n).pass.own ≡ places_of_maker n (length loaded) (drop (length loaded) history) =
      λ n number. subst (λ (m : ℕ). (all.at n).pass.own ≡ places_of_maker m (length loaded) (drop (length loaded) history)) (ran_number (fresh n) (all.at n) (all.ran n)) (all.each Owns own n number) in
      let whole = is_whole facts p loaded history all.at is all.ran begins owns in
      let first : IsNumber p 1 = (omega arith, some_pass p history workers did holds) in
      let loads : IsPrefix (loaded_pairs loaded) history = prefix_trans (loaded_pairs loaded) (all.at 1).pass.history history (fresh_begins facts p loaded 1 (all.at 1) (all.ran 1)) (begins 1 first) in
      let order = ordered facts p loaded (length history) history all.at (omega arith) loads whole in
      record {
        history = history;
        is_first = holds;
        passes = order.passes;
        together = order.together;
        last_are = all.passes order.passes order.is_last;
        calls_are = all.steps (λ n. steps_in n order.together) order.is_done;
        is_run = λ opened. machine facts p loaded order.passes history opened order.together;
      }

of_all : (facts : RealmFacts) (p front : ℕ) (loaded : List Entry) (workers : List WorkerState) (did : Pairwise Did (fresh_passes facts p loaded p) workers)
    → FirstIsLongest facts p (length loaded) front workers → OwnWhatBearsTheirNumber (length loaded) workers → PassesAreTheMachine → RanTogether facts loaded p workers did
of_all facts p front loaded [] did longest own machine = absurd longest
of_all facts p front loaded (first ∷ others) did longest own machine =
    let Begins : WorkerState → Type 0 = λ worker. IsPrefix worker.pass.history first.pass.history in
    ran_together facts p loaded first.pass.history (first ∷ others) did refl longest.is_history (All-cons Begins first others (prefix_self first.pass.history) longest.begins) own machine

pub servers_are_one_run : WorkersMadeAll → PassesAreTheMachine → ServersAreOneRun
servers_are_one_run made machine keeping first trust wanted history served kept old new of serves did =
    let own = made keeping first trust wanted history served kept old new of serves in
    of_all first.facts wanted.workers served.front first.entries serves.finishes.last did serves.finishes.longest own.1 machine
