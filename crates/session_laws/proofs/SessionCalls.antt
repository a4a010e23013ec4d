-- What sessions and workers do is calls of their passes; so what holds of calls holds of a run.
use Rattle.std.proofs.Common.{◌≡◌, ◌<◌, ◌≤◌, ℕ, List, [], ◌∷◌, Bool, map, All, Result, Ok, Err, refl, sym, ap, ◌∙◌, subst, zero, suc, inl, arith, lt_of_not-le}
use mathlib.Core.Logic.{dite}
use native.Mathlib.Decide.{dec_le}
use Rattle.std.proofs.lemmas.List.Elements.{All-nil, All-cons, All-head, All-tail, All-append}
use Rattle.kms_names.specs.Moment.{year_10000}
use Rattle.kms_json.specs.declared.asks.Ask.{Ask}
use Rattle.kms_json.specs.declared.refusals.Refusal.{Refusal}
use Rattle.account_steps.specs.declared.facts.RealmFacts.{RealmFacts}
use Rattle.account_steps.specs.History.{Entry}
use Rattle.account_core.specs.Decide.{IsProper}
use Rattle.account_laws.proofs.LawFacts.{no_iv_again as account_law}
use Rattle.http_front.specs.Message.{Message}
use Rattle.published_account.specs.Answers.{Answer}
use Rattle.publish_pass.specs.Pass.{Pass, Learns, Meets, fresh_pass, fresh_passes}
use Rattle.pass_laws.specs.Calls.{Call, read, wanted_to_read, changed, wanted_to_change, wanted_to_keep_house, missed, learnt, Calls, no_call, one_more}
use Rattle.pass_laws.proofs.CallFacts.{calls_facts, calls_append, calls_lawful, calls_opened, not_twice}
use Rattle.session_front.specs.declared.trust.Trust.{Trust}
use Rattle.session_front.specs.declared.ends.SessionEnd.TheVariants.{Ended, Closed, CutOff, ReadFault, WriteFault, NoMemory}
use Rattle.session_front.specs.Callers.{IsOfAccount}
use Rattle.session_front.specs.Items.{Item, whole, fault}
use Rattle.session_front.specs.Runs.{begins, goes_on}
use Rattle.kms_session.specs.Run.{asks, plan_by, plan_of, Answers, early, reads, changes, Wanting, wants_nothing, wants_read, wants_change, Replies, answers, wants_memory, isnt_kept, Unkept, SessionRun}
use Rattle.kms_session.specs.Session.{Outside}
use Rattle.session_front.specs.Early.{ask_of}
use Rattle.session_front.proofs.Asks.{is_ask_at}
use Rattle.kms_session.proofs.Proper.{proper_at}
use Rattle.kms_server.specs.Work.{WorkerState, Attends, TakesOne, WorkerRun, begins as starts, goes_on as takes, Works, takes_all, gives_up}
use Rattle.kms_server.specs.declared.crew.Kept.{Kept}
use Rattle.kms_server.specs.Crew.{Pairwise, none, both, Settles, KeepsOf, keeps_nothing, keeps_whole, lacks_memory, Keeps}
use Rattle.session_laws.specs.Calls.{TurnsAreCalls, RunsAreCalls, SessionsAreCalls, WorkersAreCalls, ServersAreCalls}
use Rattle.session_laws.specs.Laws.{RunsKeepLawful, RunsKeepOpened, OneSessionRepeatsNoIv}

-- ---- a request of a session is proper

module _ (facts : RealmFacts) (c : ℕ) (before : c < year_10000) (x : Ask) where
  proper_plan : (trust : Trust) (region : List ℕ) (m : Message) (r : Result Ask Refusal) → IsOfAccount facts.account trust → ask_of trust region m c ≡ r → plan_by r ≡ asks x → IsProper facts x
  proper_plan trust region m (Ok y) of is e = let same : y ≡ x = cc in subst (IsProper facts) same (proper_at facts c y before (is_ask_at facts.account c y trust region m of is))
  proper_plan trust region m (Err why) of is e = cc

  proper_item : (trust : Trust) (region : List ℕ) (item : Item) → IsOfAccount facts.account trust → plan_of trust region item c ≡ asks x → IsProper facts x
  proper_item trust region (whole m) of e = proper_plan trust region m (ask_of trust region m c) of refl e
  proper_item trust region (fault why) of e = cc

-- ---- a turn

one_call : (s t : Pass) (met : List (Entry × ℕ)) → Call s met t → Calls s t
one_call s t met call = one_more met no_call call

stays : (s t : Pass) → t ≡ s → Calls s t
stays s t same = subst (Calls s) (sym same) no_call

learns : (s t : Pass) → Learns s t → Calls s t
learns s t is = one_call s t t.history (learnt is refl)

module _ (trust : Trust) (item : Item) (c : ℕ) (before : c < year_10000) (s : Pass) (of : IsOfAccount s.facts.account trust) where
  proper_here : (x : Ask) → plan_of trust s.facts.region item c ≡ asks x → IsProper s.facts x
  proper_here x plan = proper_item s.facts c before x trust s.facts.region item of plan

  answer_calls : (answer : Answer) (t : Pass) → Answers s (plan_of trust s.facts.region item c) answer t → Calls s t
  answer_calls answer t (early plan same) = stays s t same
  answer_calls answer t (reads x reply plan which h gives) = one_call s t h.met.history (read x reply (proper_here x plan) which h refl)
  answer_calls answer t (changes x reply plan which h gives) = one_call s t h.met.history (changed x reply (proper_here x plan) which h refl)

  wanting_calls : (t : Pass) → Wanting s (plan_of trust s.facts.region item c) t → Calls s t
  wanting_calls t (wants_nothing same) = stays s t same
  wanting_calls t (wants_read x plan which h) = one_call s t h.met.history (wanted_to_read x (proper_here x plan) which h refl)
  wanting_calls t (wants_change x plan which h) = one_call s t h.met.history (wanted_to_change x (proper_here x plan) h refl)

  turn_calls : {keeping : Bool} (closes : Bool) (text : List ℕ) (t : Pass) → Replies keeping s (plan_of trust s.facts.region item c) c closes text t → Calls s t
  turn_calls closes text t (answers answer h is) = answer_calls answer t h
  turn_calls closes text t (wants_memory h is) = wanting_calls t h
  turn_calls closes text t (isnt_kept h is) = wanting_calls t (wants_change h.ask h.asked h.changes h.left)

pub turns_are_calls : TurnsAreCalls
turns_are_calls keeping trust item c closes text s t of before turn = turn_calls trust item c before s of closes text t turn

-- ---- a run, a session

still_of : (trust : Trust) (s t : Pass) → IsOfAccount s.facts.account trust → t.facts ≡ s.facts → IsOfAccount t.facts.account trust
still_of trust s t of same = subst (λ (f : RealmFacts). IsOfAccount f.account trust) (sym same) of

run_calls : {keeping : Bool} (trust : Trust) (start end : Pass) (items : List Item) (clocks text : List ℕ) → IsOfAccount start.facts.account trust → SessionRun keeping start trust end items clocks text → Calls start end
run_calls trust start end items clocks text of begins = no_call
run_calls trust start end items clocks text of (goes_on {old = old} item c before run turn) =
    let so_far = run_calls trust start old _ _ _ of run in
    calls_append start old end so_far (turn_calls trust item c before old (still_of trust start old of (calls_facts start old so_far)) _ _ end turn)

pub runs_are_calls : RunsAreCalls
runs_are_calls keeping trust start end items clocks text of run = run_calls trust start end items clocks text of run

pub sessions_are_calls : SessionsAreCalls
sessions_are_calls keeping trust Ended old new of is = run_calls trust old.state new.state _ _ _ of is.serves.run
sessions_are_calls keeping trust Closed old new of is = run_calls trust old.state new.state _ _ _ of is.serves.run
sessions_are_calls keeping trust CutOff old new of is = run_calls trust old.state new.state _ _ _ of is.serves.run
sessions_are_calls keeping trust ReadFault old new of is = run_calls trust old.state new.state _ _ _ of is.serves.run
sessions_are_calls keeping trust WriteFault old new of is =
    let so_far = run_calls trust old.state is.so_far.state _ _ _ of is.serves.run in
    calls_append old.state is.so_far.state new.state so_far
    (turn_calls trust is.item is.c is.before_year_10000 is.so_far.state (still_of trust old.state is.so_far.state of (calls_facts old.state is.so_far.state so_far)) _ _ new.state is.step)
sessions_are_calls keeping trust NoMemory old new of is = stays old.state new.state (ap (λ (o : Outside). o.state) is)

-- ---- a worker

attends_calls : {keeping : Bool} (trust : Trust) (old new : WorkerState) (wire : _) → IsOfAccount old.pass.facts.account trust → Attends keeping trust old wire new → Calls old.pass new.pass
attends_calls trust old new wire of is =
    let first = learns old.pass is.met is.learns in
    let session = sessions_are_calls _ trust is.end _ _ (still_of trust old.pass is.met of (calls_facts old.pass is.met first)) is.ends in
    calls_append old.pass is.left new.pass (calls_append old.pass is.met is.left first session)
    (one_call is.left new.pass is.house.met.history (wanted_to_keep_house is.moment is.before_year_10000 is.house refl))

takes_calls : {keeping : Bool} (trust : Trust) (old new : WorkerState) → IsOfAccount old.pass.facts.account trust → TakesOne keeping trust old new → Calls old.pass new.pass
takes_calls trust old new of is = subst (λ (w : WorkerState). Calls old.pass w.pass) (sym is.one_more) (attends_calls trust _ is.served is.wire of is.attends)

worker_calls : {keeping : Bool} (trust : Trust) (start end : WorkerState) → IsOfAccount start.pass.facts.account trust → WorkerRun keeping trust start end → Calls start.pass end.pass
worker_calls trust start end of starts = no_call
worker_calls trust start end of (takes {old = old} run one) =
    let so_far = worker_calls trust start old of run in
    calls_append start.pass old.pass end.pass so_far (takes_calls trust old end (still_of trust start.pass old.pass of (calls_facts start.pass old.pass so_far)) one)

pub workers_are_calls : WorkersAreCalls
workers_are_calls keeping trust connections start end of (takes_all run size back) = worker_calls trust start end of run
workers_are_calls keeping trust connections start end of (gives_up {last = last} run size up) =
    subst (λ (w : WorkerState). Calls start.pass w.pass) (sym up.others) (worker_calls trust start last of run)

-- ---- a server

same_facts : (facts : RealmFacts) (passes : ℕ) (loaded : List Entry) (n : ℕ) → All (λ (pass : Pass). pass.facts ≡ facts) (fresh_passes facts passes loaded n)
same_facts facts passes loaded zero = All-nil (λ (pass : Pass). pass.facts ≡ facts)
same_facts facts passes loaded (suc n) = All-append (λ (pass : Pass). pass.facts ≡ facts) (fresh_passes facts passes loaded n) (fresh_pass facts passes loaded (suc n) ∷ []) (same_facts facts passes loaded n)
    (All-cons (λ (pass : Pass). pass.facts ≡ facts) (fresh_pass facts passes loaded (suc n)) [] refl (All-nil (λ (pass : Pass). pass.facts ≡ facts)))

-- a pass that meets more of the history, and may have missed the published account before
meets_calls : (s u : Pass) → Meets s u → Calls s u
meets_calls s u met = dite (dec_le u.missed s.missed)
    (λ (le : u.missed ≤ s.missed). let same : u.missed ≡ s.missed = let more = met.missed in omega (arith, more) in
    one_more u.history no_call (learnt (record {
      history = met.history;
      others = met.others ∙ ap (λ (n : ℕ). let t : Pass = record s { history = u.history; missed = n } in t) same;
      leads = met.leads;
    }) refl))
    (λ (more : _). let mid : Pass = record s { missed = u.missed } in
    one_more u.history
    (one_more s.history no_call (missed (record { others = refl; rose = (met.missed, inl (lt_of_not-le more)) }) refl))
    (learnt (record { history = met.history; others = met.others; leads = met.leads }) refl))

keeps_calls : (facts : RealmFacts) (wanted : Bool) (account : Kept) (s t : Pass) → KeepsOf facts wanted account s t → Calls s t
keeps_calls facts wanted account s t keeps_nothing = no_call
keeps_calls facts wanted account s t (keeps_whole kept met of are) = meets_calls s t met
keeps_calls facts wanted account s t (lacks_memory met) = meets_calls s t met

module _ (facts : RealmFacts) (trust : Trust) (connections : ℕ) (of : IsOfAccount facts.account trust) where
  abbrev Did : Pass → WorkerState → Type 0
  Did first worker = Calls first worker.pass

  crew_calls : {keeping : Bool} (crew ends last : List WorkerState) → All (λ (pass : Pass). pass.facts ≡ facts) (map (λ (w : WorkerState). w.pass) crew) → Pairwise (Works keeping trust connections) crew ends
      → Pairwise Settles ends last → Pairwise Did (map (λ (w : WorkerState). w.pass) crew) last
  crew_calls crew ends last same none none = none
  crew_calls crew ends last same (both {x = first} {y = end} work works) (both {y = settled} settles all) =
      let P : Pass → Type 0 = λ pass. pass.facts ≡ facts in
      let first_same : first.pass.facts ≡ facts = All-head P first.pass _ same in
      let here : IsOfAccount first.pass.facts.account trust = subst (λ (f : RealmFacts). IsOfAccount f.account trust) (sym first_same) of in
      both (calls_append first.pass end.pass settled.pass (workers_are_calls _ trust connections first end here work) (learns end.pass settled.pass settles.learns))
      (crew_calls _ _ _ (All-tail P first.pass _ same) works all)

-- the account is kept by the first of them
kept_calls : (facts : RealmFacts) (wanted : Bool) (account : Kept) (fresh : List Pass) (settled last : List WorkerState)
    → Pairwise (λ (first : Pass) (worker : WorkerState). Calls first worker.pass) fresh settled → Keeps facts wanted account settled last
    → Pairwise (λ (first : Pass) (worker : WorkerState). Calls first worker.pass) fresh last
kept_calls facts wanted account [] [] last did keeps = absurd keeps
kept_calls facts wanted account [] (s ∷ ss) last did keeps = elim did [ ]
kept_calls facts wanted account (p ∷ ps) [] last did keeps = elim did [ ]
kept_calls facts wanted account (p ∷ ps) (s ∷ ss) [] did keeps = absurd keeps
kept_calls facts wanted account (p ∷ ps) (s ∷ ss) (t ∷ ts) (both first others) keeps =
    both (calls_append p s.pass t.pass first (keeps_calls facts wanted account s.pass t.pass keeps.0))
    (subst (Pairwise (λ (first : Pass) (worker : WorkerState). Calls first worker.pass) ps) (sym keeps.2) others)

pub servers_are_calls : ServersAreCalls
servers_are_calls keeping first trust wanted history served kept old new of is =
    let are = is.is_crew.passes_are in
    let facts = first.facts in
    let same : All (λ (pass : Pass). pass.facts ≡ facts) (map (λ (w : WorkerState). w.pass) is.crew) =
    subst (All (λ (pass : Pass). pass.facts ≡ facts)) (sym are) (same_facts facts wanted.workers first.entries wanted.workers) in
    let fresh : List Pass = fresh_passes facts wanted.workers first.entries wanted.workers in
    kept_calls facts wanted.keeps kept fresh is.finishes.settled is.finishes.last
    (subst (λ (passes : List Pass). Pairwise (λ (first : Pass) (worker : WorkerState). Calls first worker.pass) passes is.finishes.settled) are
    (crew_calls facts trust wanted.connections of is.crew is.ends is.finishes.settled same is.work is.finishes.settles))
    is.finishes.keeps

-- ---- what holds of calls

pub keeps_lawful : RunsKeepLawful
keeps_lawful keeping trust start end items clocks text run of lawful = calls_lawful start end (run_calls trust start end items clocks text of run) lawful

pub keeps_opened : RunsKeepOpened
keeps_opened keeping trust start end items clocks text run of opened = calls_opened start end (run_calls trust start end items clocks text of run) opened

pub no_iv_again : OneSessionRepeatsNoIv
no_iv_again keeping trust s t u v first second c d items clocks text one other of opened seals run again =
    let facts_are : t.facts ≡ s.facts = ap (λ (p : Pass). p.facts) seals.reads.used ∙ ap (λ (p : Pass). p.facts) seals.reads.seen.others in
    not_twice account_law s t u v one other opened
    (record { request = seals.request; reply = seals.reply; reads = seals.reads; sealed = seals.sealed })
    (run_calls trust t u items clocks text (still_of trust s t of facts_are) run)
    (record { request = again.request; reply = again.reply; reads = again.reads; sealed = again.sealed })
