use Rattle.std.proofs.Common.{◌≡◌, ◌+◌, ◌≤◌, ◌++◌, length, map, vec_len, vec_capacity}
use Rattle.std.specs.Prelude.{sum}
use Rattle.kms_server.proofs.crew.disband_others.Given as goal

abbrev pub invariant-loop-worker : goal.invariant-loop-worker
invariant-loop-worker g l = record {
  ears : map (λ worker. worker.ear) l.crew.items ++ l.ears.items ≡ map (λ worker. worker.ear) l.initial.crew.items ++ l.initial.ears.items;
  clocks : map (λ worker. worker.clock) l.crew.items ++ l.clocks.items ≡ map (λ worker. worker.clock) l.initial.crew.items ++ l.initial.clocks.items;
  ears_room : vec_len l.ears + vec_len l.crew ≤ vec_capacity l.ears;
  clocks_room : vec_len l.clocks + vec_len l.crew ≤ vec_capacity l.clocks;
  ears_size : vec_len l.ears + vec_len l.crew ≡ vec_len l.initial.ears + vec_len l.initial.crew;
  clocks_size : vec_len l.clocks + vec_len l.crew ≡ vec_len l.initial.clocks + vec_len l.initial.crew;
  ears_kept : vec_capacity l.initial.ears ≤ vec_capacity l.ears;
  clocks_kept : vec_capacity l.initial.clocks ≤ vec_capacity l.clocks;
  passes : l.tally.passes + vec_len l.crew ≡ l.initial.tally.passes + vec_len l.initial.crew;
  made : l.tally.made + sum (map (λ worker. length worker.pass.own) l.crew.items) ≡ l.initial.tally.made + sum (map (λ worker. length worker.pass.own) l.initial.crew.items);
}

abbrev pub decreases-loop-worker : goal.decreases-loop-worker
decreases-loop-worker g l = vec_len l.crew
