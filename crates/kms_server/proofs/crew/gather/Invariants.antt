use Rattle.std.proofs.Common.{◌≡◌, ◌+◌, All, map, vec_len, vec_capacity, take, drop}
use Rattle.kms_io.specs.Door.{IsNewEar}
use Rattle.kms_server.proofs.crew.gather.Given as goal

abbrev pub invariant-loop-crew : goal.invariant-loop-crew
invariant-loop-crew g l = record {
  passes : map (λ worker. worker.pass) l.crew.items ≡ take (vec_len l.crew) l.initial.passes.items;
  clocks : map (λ worker. worker.clock) l.crew.items ≡ take (vec_len l.crew) l.initial.clocks.items;
  new_ears : All (λ worker. IsNewEar (g.E.Ear.shows worker.ear)) l.crew.items;
  taken : All (λ worker. worker.taken ≡ 0) l.crew.items;
  passes_left : l.passes.items ≡ drop (vec_len l.crew) l.initial.passes.items;
  clocks_left : l.clocks.items ≡ drop (vec_len l.crew) l.initial.clocks.items;
  ears_left : All (λ ear. IsNewEar (g.E.Ear.shows ear)) l.ears.items;
  clocks_size : vec_len l.clocks + vec_len l.crew ≡ vec_len l.initial.clocks;
  passes_size : vec_len l.passes + vec_len l.crew ≡ vec_len l.initial.passes;
  ears_size : vec_len l.ears ≡ vec_len l.passes;
  clocks_room : vec_capacity l.clocks ≡ vec_capacity l.initial.clocks;
  ears_room : vec_capacity l.ears ≡ vec_capacity l.initial.ears;
  crew_room : vec_capacity l.crew ≡ vec_capacity l.initial.crew;
}

abbrev pub decreases-loop-crew : goal.decreases-loop-crew
decreases-loop-crew g l = vec_len l.passes
