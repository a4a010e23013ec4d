use Rattle.std.proofs.Common.{◌≡◌, ◌∙◌, ◌++◌, ◌≤◌, ◌<◌, ◌*◌, ◌^◌, ℕ, All, length, map, take, drop, false, ap, sym, subst, arith}
use Rattle.std.proofs.lemmas.List.{take-map, drop-map, length-map}
use Rattle.std.proofs.lemmas.List.Elements.{All-map}
use Rattle.kms_io.specs.Door.{IsNewEar}
use Rattle.publish_pass.specs.Pass.{fresh_passes}
use Rattle.kms_server.specs.Work.{Works}
use Rattle.kms_server.specs.Crew.{Pairwise, taken_by, Finishes}
use Rattle.kms_server.specs.States.{state_of}
use Rattle.kms_server.proofs.Crews.{taken_few, map_map, written_back}
use Rattle.kms_server.proofs.server.serve_with.Goals as goal

pub gather-requires-clause-ears : goal.gather-requires-clause-ears
gather-requires-clause-ears g c =
    let gains = c.in-Open.ensures.1 in
    let ears : c.open.new.ears.items ≡ gains.ears = gains.list ∙ ap (λ before. before ++ gains.ears) c.new-ears.ensures.items in
    let number : length c.open.new.ears.items ≡ c.args.order.now.workers = ap length ears ∙ gains.number in
    let passes : length c.args.passes.items ≡ g.R.Realm.passes = sym c.args.passes.ok.0 ∙ c.requires.passes in
    let workers : g.R.Realm.passes ≡ c.args.order.now.workers = c.requires.workers.0 in
    omega (arith, c.open.new.ears.ok, c.args.passes.ok)

pub gather-requires-clause-clocks : goal.gather-requires-clause-clocks
gather-requires-clause-clocks g c =
    let passes : length c.args.passes.items ≡ g.R.Realm.passes = sym c.args.passes.ok.0 ∙ c.requires.passes in
    let workers : g.R.Realm.passes ≡ c.args.order.now.workers = c.requires.workers.0 in
    let few : c.args.order.now.workers ≤ 64 = c.requires.workers.2 in
    omega (arith, c.args.passes.ok, c.requires.clocks)

pub gather-requires-clause-new : goal.gather-requires-clause-new
gather-requires-clause-new g c =
    let gains = c.in-Open.ensures.1 in
    let ears : c.open.new.ears.items ≡ gains.ears = gains.list ∙ ap (λ before. before ++ gains.ears) c.new-ears.ensures.items in
    subst (λ ears. All (λ ear. IsNewEar (g.D.Listener.Ear.shows ear)) ears) (sym ears) gains.each

pub work_all-requires-clause-some : goal.work_all-requires-clause-some
work_all-requires-clause-some g c = λ _ _.
    let passes : length c.args.passes.items ≡ g.R.Realm.passes = sym c.args.passes.ok.0 ∙ c.requires.passes in
    let workers : g.R.Realm.passes ≡ c.args.order.now.workers = c.requires.workers.0 in
    let some : 0 < c.args.order.now.workers = c.requires.workers.1 in
    omega (arith, c.args.passes.ok, c.gather.ensures.size, c.as_mut_slice.ensures.len)

pub work_all-requires-clause-is_in : goal.work_all-requires-clause-is_in
work_all-requires-clause-is_in g c = λ _ _.
    subst (λ workers. All (λ worker. (g.D.Listener.Ear.shows worker.ear).is_out ≡ false) workers) (sym c.as_mut_slice.ensures.value) (λ k d lt. (c.gather.ensures.ears k d lt).is_in)

pub work_all-requires-clause-new : goal.work_all-requires-clause-new
work_all-requires-clause-new g c = λ _ _. subst (λ workers. All (λ worker. worker.taken ≡ 0) workers) (sym c.as_mut_slice.ensures.value) c.gather.ensures.taken

pub finish-ended-requires-clause-some : goal.finish-ended-requires-clause-some
finish-ended-requires-clause-some g c =
    let passes : length c.args.passes.items ≡ g.R.Realm.passes = sym c.args.passes.ok.0 ∙ c.requires.passes in
    let workers : g.R.Realm.passes ≡ c.args.order.now.workers = c.requires.workers.0 in
    let some : 0 < c.args.order.now.workers = c.requires.workers.1 in
    omega (arith, c.args.passes.ok, c.gather.ensures.size)

pub finish-ended-requires-clause-passes : goal.finish-ended-requires-clause-passes
finish-ended-requires-clause-passes g c = omega (arith, c.args.passes.ok, c.gather.ensures.size, c.requires.passes)

pub finish-ended-requires-clause-few : goal.finish-ended-requires-clause-few
finish-ended-requires-clause-few g c =
    let seen = state_of g.C.Clock.told g.D.Listener.Ear.shows in
    let begun = c.as_mut_slice.result.now in
    let ended = c.work_all.new.crew in
    let passes : length c.args.passes.items ≡ g.R.Realm.passes = sym c.args.passes.ok.0 ∙ c.requires.passes in
    let workers : g.R.Realm.passes ≡ c.args.order.now.workers = c.requires.workers.0 in
    let few : c.args.order.now.workers ≤ 64 = c.requires.workers.2 in
    let each : c.args.host.now.connections ≤ 144115188075855872 = omega (arith, c.requires.connections.0, c.requires.connections.1) in
    let size : length (map seen begun) ≡ length begun = length-map begun seen in
    let most : taken_by (map seen ended) ≤ length (map seen begun) * 144115188075855872 = taken_few c.args.host.now.connections (map seen begun) (map seen ended) each c.work_all.ensures in
    let back = written_back c.gather.new.crew.len ended (drop (length ended) c.gather.new.crew.items) (omega (arith, c.work_all.auto.crew, c.as_mut_slice.ensures.len)) in
    let bound : taken_by (map seen ended) < 2 ^ 64 = omega (arith, c.args.passes.ok, c.gather.ensures.size, c.as_mut_slice.ensures.len) in
    subst (λ workers. taken_by (map seen workers) < 2 ^ 64) (sym back) bound

pub finish-ended-requires-clause-ears : goal.finish-ended-requires-clause-ears
finish-ended-requires-clause-ears g c =
    let gains = c.in-Open.ensures.1 in
    let ears : c.open.new.ears.items ≡ gains.ears = gains.list ∙ ap (λ before. before ++ gains.ears) c.new-ears.ensures.items in
    let number : length c.open.new.ears.items ≡ c.args.order.now.workers = ap length ears ∙ gains.number in
    let passes : length c.args.passes.items ≡ g.R.Realm.passes = sym c.args.passes.ok.0 ∙ c.requires.passes in
    let workers : g.R.Realm.passes ≡ c.args.order.now.workers = c.requires.workers.0 in
    omega (arith, c.open.new.ears.ok.0, c.open.new.ears.ok.1, c.args.passes.ok.0, c.gather.ensures.ears_room, c.gather.ensures.size)

pub returns-clause-served : goal.returns-clause-served
returns-clause-served g c = λ entries fresh loaded.
    let told = g.C.Clock.told in
    let seen = state_of told g.D.Listener.Ear.shows in
    let clocks = c.args.clocks.now.items in
    let hired = c.gather.new.crew.items in
    let ended = c.work_all.new.crew in
    let served = c.finish-ended.ensures.finishes in
    let workers : g.R.Realm.passes ≡ c.args.order.now.workers = c.requires.workers.0 in
    let size : c.args.passes.len ≡ c.args.order.now.workers = c.requires.passes ∙ workers in
    let back = written_back c.gather.new.crew.len ended (drop (length ended) c.gather.new.crew.items) (omega (arith, c.work_all.auto.crew, c.as_mut_slice.ensures.len)) in
    record {
      opened = g.D.Door.shows c.open.new.self;
      asked = c.in-Open.ensures.0;
      crew = map seen hired;
      is_crew = record {
        passes_are = map_map (λ state. state.pass) seen hired ∙ c.gather.ensures.passes ∙ fresh ∙ ap (λ (n : ℕ). fresh_passes g.R.Realm.facts n entries n) workers;
        clocks_are = map_map (λ state. state.clock) seen hired ∙ sym (map_map told (λ worker. worker.clock) hired) ∙ ap (map told) c.gather.ensures.clocks
            ∙ sym (take-map told c.args.passes.len clocks) ∙ ap (λ (n : ℕ). take n (map told clocks)) size;
        ears = All-map (λ state. IsNewEar state.ear) seen hired c.gather.ensures.ears;
        taken = All-map (λ state. state.taken ≡ 0) seen hired c.gather.ensures.taken;
      };
      ends = map seen ended;
      work = subst (λ (n : ℕ). Pairwise (Works g.K.Keeps.keeps c.args.host.now.trust.now n) (map seen hired) (map seen ended)) c.requires.connections.0
          (subst (λ workers. Pairwise (Works g.K.Keeps.keeps c.args.host.now.trust.now c.args.host.now.connections) (map seen workers) (map seen ended)) c.as_mut_slice.ensures.value c.work_all.ensures);
      ears = map g.D.Listener.Ear.shows c.finish-ended.new.ears.items;
      told = served.0;
      finishes = subst
          (λ (k : ℕ). Finishes g.R.Realm.facts c.args.order.now.workers k c.args.order.now.connections c.args.order.now.keeps c.finish-ended.result.told (map seen ended) c.finish-ended.result.served c.finish-ended.result.kept
          (map g.D.Listener.Ear.shows c.finish-ended.new.ears.items) served.0)
          (sym loaded)
          (subst
          (λ (n : ℕ). Finishes g.R.Realm.facts n g.R.Realm.loaded c.args.order.now.connections c.args.order.now.keeps c.finish-ended.result.told (map seen ended) c.finish-ended.result.served c.finish-ended.result.kept
          (map g.D.Listener.Ear.shows c.finish-ended.new.ears.items) served.0)
          workers
          (subst
          (λ workers. Finishes g.R.Realm.facts g.R.Realm.passes g.R.Realm.loaded c.args.order.now.connections c.args.order.now.keeps c.finish-ended.result.told (map seen workers) c.finish-ended.result.served c.finish-ended.result.kept
          (map g.D.Listener.Ear.shows c.finish-ended.new.ears.items) served.0)
          back
          served.2));
      closed = c.close.ensures;
      clocks = served.1 ∙ ap (λ rest. served.0 ++ rest) (ap (map told) c.gather.ensures.rest ∙ sym (drop-map told c.args.passes.len clocks) ∙ ap (λ (n : ℕ). drop n (map told clocks)) size);
    }
