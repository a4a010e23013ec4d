use Rattle.std.proofs.Common.{refl, inl, inr, false, ◌≡◌, ◌+◌, ◌<◌, ◌≤◌, length, ap, map, Some, arith, slice_index_or, nat_lt, true}
use Rattle.std.proofs.lemmas.Bool.Decides.{nat_tests}
use Rattle.std.proofs.lemmas.Grind.{common_steps}
use Rattle.std.proofs.lemmas.List.{take-set-le, drop_all}
use Rattle.kms_io.specs.MemoryLink.{wire_of}
use Rattle.kms_io.specs.Calls.{is_failing}
use Rattle.kms_io.specs.MemoryEar.{calls_of}
use Rattle.kms_io.proofs.NewLinks.{new_wire, new_at, new_after, waiting_next, within}
use Rattle.kms_io.proofs.memory_ear.MemoryEarEar.next.Goals as goal
use Rattle.kms_io.proofs.memory_ear.MemoryEarEar.next.Goals.{then-contains-via-then-contains, then-contains-via-else-contains+then-self-len}

pub returns-clause-hears : goal.returns-clause-hears
returns-clause-hears c =
    let ear = c.args.self.now in
    let inside : ear.given < length ear.conns.items = omega arith in
    let at : c.replace-conn.result ≡ slice_index_or ear.conns.items ear.given c.replace-conn.result = cc in
    let before : ear.back ≤ ear.given = ear.order in
    let is_out : nat_lt ear.back (ear.given + 1) ≡ true = grind (arith, nat_tests) in (
      new_wire _ (new_at ear.conns.items ear.given c.replace-conn.result inside at ear.are_new),
      is_out,
      record {
        given_back = ap (λ conns. Some (map wire_of conns)) (take-set-le ear.back ear.conns.items ear.given c.replace-conn.new.dest before);
        faults = omega arith;
      },
    )

pub returns-then-contains-clause-gives : goal.returns-then-contains-clause-gives
returns-then-contains-clause-gives c =
    let ear = c.args.self.now in
    elim c.then-contains.branch [
      | then-contains-via-then-contains w ↦
          let listed : is_failing (calls_of ear) ≡ true = grind (arith, common_steps) in
          (inl listed, refl)
      | then-contains-via-else-contains+then-self-len w ↦
          let past : length ear.conns.items ≤ ear.given = omega arith in
          (inr (drop_all ear.given ear.conns.items past), refl)
    ]

pub returns-clause-gives : goal.returns-clause-gives
returns-clause-gives c =
    let ear = c.args.self.now in
    let inside : ear.given < length ear.conns.items = omega arith in
    let at : c.replace-conn.result ≡ slice_index_or ear.conns.items ear.given c.replace-conn.result = cc in
    let others : is_failing (calls_of ear) ≡ false = grind (arith, common_steps) in
    (others, waiting_next ear.conns.items ear.given c.replace-conn.result c.replace-conn.new.dest inside at)

pub invariant_of-self-2-clause-are_new : goal.invariant_of-self-2-clause-are_new
invariant_of-self-2-clause-are_new c =
    let ear = c.args.self.now in
    let inside : ear.given < length ear.conns.items = omega arith in
    let at : c.replace-conn.result ≡ slice_index_or ear.conns.items ear.given c.replace-conn.result = cc in
    new_after _ c.replace-conn.result _ (waiting_next ear.conns.items ear.given c.replace-conn.result c.replace-conn.new.dest inside at) ear.are_new

pub invariant_of-self-2-clause-within : goal.invariant_of-self-2-clause-within
invariant_of-self-2-clause-within c =
    let ear = c.args.self.now in
    let inside : ear.given < length ear.conns.items = omega arith in
    within ear.conns.items ear.given c.replace-conn.new.dest inside
