use Rattle.std.proofs.Common.{◌≡◌, ◌∙◌, ◌+◌, ◌++◌, ◌<◌, ◌^◌, ℕ, List, length, drop, map, refl, ap, sym, subst, arith}
use mathlib.Core.List.{append-nil}
use Rattle.std.specs.Prelude.{sum}
use Rattle.std.specs.Sync.Mutex.{mutex_guard_value}
use Rattle.std.proofs.lemmas.List.{map-append}
use Rattle.publish_pass.specs.Desks.{Desk}
use Rattle.publish_pass.specs.Pass.{Tally}
use Rattle.kms_server.specs.Crew.{Pairwise, Settles, FirstIsLongest, FirstHolds, taken_by}
use Rattle.kms_server.specs.States.{state_of}
use Rattle.kms_server.proofs.Crews.{settle_on, taken_settled, kept_here, front_is, one_first, map_map, tells_all, written_back}
use Rattle.kms_server.proofs.server.finish.Goals as goal

pub taken_by-requires : goal.taken_by-requires
taken_by-requires g c =
    let seen = state_of g.C.Clock.told g.E.Ear.shows in
    let settled = c.settle_all.new.crew in
    let begun = subst (λ workers. Pairwise Settles (map seen workers) (map seen settled)) c.as_mut_slice.ensures.value c.settle_all.ensures in
    let back = written_back c.args.crew.len settled (drop (length settled) c.args.crew.items) (omega (arith, c.settle_all.auto.crew, c.as_mut_slice.ensures.len)) in
    let learnt = subst (λ workers. Pairwise Settles (map seen workers) (map seen c.learn_all.new.crew.items)) back c.learn_all.ensures.settles in
    let all = settle_on _ _ _ (settle_on _ _ _ begun learnt) c.settle_first-desk.ensures.settles in
    subst (λ workers. taken_by (map seen workers) < 2 ^ 64) (sym c.deref-2.ensures.value)
    (subst (λ (n : ℕ). n < 2 ^ 64) (sym (taken_settled _ _ all)) c.requires.few)

pub returns-clause-finishes : goal.returns-clause-finishes
returns-clause-finishes g c =
    let seen = state_of g.C.Clock.told g.E.Ear.shows in
    let workers = c.settle_first-desk.new.crew.items in
    let settled = c.settle_all.new.crew in
    let begun = subst (λ workers. Pairwise Settles (map seen workers) (map seen settled)) c.as_mut_slice.ensures.value c.settle_all.ensures in
    let back = written_back c.args.crew.len settled (drop (length settled) c.args.crew.items) (omega (arith, c.settle_all.auto.crew, c.as_mut_slice.ensures.len)) in
    let learnt = subst (λ workers. Pairwise Settles (map seen workers) (map seen c.learn_all.new.crew.items)) back c.learn_all.ensures.settles in
    let history = (mutex_guard_value c.settle_first-desk.result).pairs in
    let all_passes : c.disband-tally.result.passes ≡ g.R.Realm.passes =
    omega (arith, c.disband-tally.ensures.passes, c.settle_first-desk.ensures.size, c.learn_all.ensures.size, c.requires.passes) in
    let longest = subst (λ workers. FirstIsLongest g.R.Realm.facts g.R.Realm.passes g.R.Realm.loaded c.front_of.result (map seen workers)) c.deref-3.ensures.value c.front_of.ensures in
    let ears = c.disband-tally.ensures.ears ∙ ap (λ rest. map (λ worker. worker.ear) workers ++ rest) c.requires.nobody ∙ append-nil (map (λ worker. worker.ear) workers) in (
      map (λ state. state.clock) (map seen workers),
      ap (map g.C.Clock.told) c.disband-tally.ensures.clocks
          ∙ map-append g.C.Clock.told (map (λ worker. worker.clock) workers) c.args.clocks.now.items
          ∙ ap (λ told. told ++ map g.C.Clock.told c.args.clocks.now.items) (map_map g.C.Clock.told (λ worker. worker.clock) workers ∙ sym (map_map (λ state. state.clock) seen workers)),
      record {
        settled = map seen workers;
        settles = settle_on _ _ _ (settle_on _ _ _ begun learnt) c.settle_first-desk.ensures.settles;
        last = map seen workers;
        keeps = kept_here _ _ _ history (map seen workers) c.settle_first-desk.ensures.holds (λ pass same. c.keep_here-kept.ensures pass (same ∙ sym (ap (λ (d : Desk _). d.pairs) c.deref.ensures)));
        longest = longest;
        holds = subst (λ workers. FirstHolds c.told_by_first-told.result (map seen workers)) c.deref-5.ensures.value c.told_by_first-told.ensures;
        made = front_is _ _ _ _ history (map seen workers) longest c.settle_first-desk.ensures.holds ∙ ap (λ (d : Desk _). length d.pairs) (sym c.deref_mut.ensures.value)
            ∙ sym (c.audit.ensures.whole all_passes) ∙ ap (λ (n : ℕ). n + g.R.Realm.loaded) (c.disband-tally.ensures.made ∙ sym (ap (λ (sizes : List ℕ). sum sizes) (map_map (λ state. length state.pass.own) seen workers)));
        taken = c.taken_by.ensures ∙ ap (λ workers. taken_by (map seen workers)) c.deref-2.ensures.value;
        whole = tells_all (λ state. state.taken ≡ c.args.order.now.connections) seen workers c.deref-4.result.now c.took_all.result c.deref-4.ensures.value c.took_all.ensures;
        ears_are = ap (map g.E.Ear.shows) ears ∙ map_map g.E.Ear.shows (λ worker. worker.ear) workers ∙ sym (map_map (λ state. state.ear) seen workers);
        clocks_are = refl;
      },
    )

pub returns-clause-all : goal.returns-clause-all
returns-clause-all g c =
    let seen = state_of g.C.Clock.told g.E.Ear.shows in
    let workers = c.settle_first-desk.new.crew.items in
    let history = (mutex_guard_value c.settle_first-desk.result).pairs in
    let all_passes : c.disband-tally.result.passes ≡ g.R.Realm.passes =
    omega (arith, c.disband-tally.ensures.passes, c.settle_first-desk.ensures.size, c.learn_all.ensures.size, c.requires.passes) in
    let first = subst (λ workers. FirstHolds c.told_by_first-told.result (map seen workers)) c.deref-5.ensures.value c.told_by_first-told.ensures in
    let told : c.told_by_first-told.result ≡ history = one_first _ _ (map seen workers) first c.settle_first-desk.ensures.holds in (
      ap (λ (t : Tally). t.passes) c.audit.ensures.tally ∙ all_passes,
      ap (λ (t : Tally). t.made + g.R.Realm.loaded) c.audit.ensures.tally ∙ c.audit.ensures.whole all_passes ∙ ap (λ (d : Desk _). length d.pairs) c.deref_mut.ensures.value ∙ sym (ap length told),
    )
