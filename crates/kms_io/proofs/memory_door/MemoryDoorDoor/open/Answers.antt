use Rattle.std.proofs.Common.{◌≤◌, IsTrue, length, take, sym, subst, refl, arith}
use Rattle.std.proofs.lemmas.Grind.{common_steps}
use Rattle.std.proofs.lemmas.List.{length-take-le}
use Rattle.kms_io.specs.NewEars.{are_new_ears}
use Rattle.kms_io.proofs.NewEars.{new_first, new_rest}
use Rattle.kms_io.proofs.memory_door.MemoryDoorDoor.open.Goals as goal

pub invariant_of-self-in-Ok-move_first : goal.invariant_of-self-in-Ok-move_first
invariant_of-self-in-Ok-move_first c =
    let ears = c.args.self.now.ears.items in
    let count = c.from-count.result in
    record { are_new = subst (λ rest. IsTrue (are_new_ears rest)) (sym c.in-Ok-move_first.ensures.rest) (new_rest ears count c.args.self.now.are_new) }

pub returns-in-Ok-move_first-clause-opens : goal.returns-in-Ok-move_first-clause-opens
returns-in-Ok-move_first-clause-opens c =
    let ears = c.args.self.now.ears.items in
    let count = c.from-count.result in
    let enough : count ≤ length ears = omega arith in (
      record {
        asked = grind (arith, common_steps);
        is_open = refl;
        given_back = refl;
        faults = omega arith;
      },
      record {
        ears = take count ears;
        list = c.in-Ok-move_first.ensures.moved;
        number = omega (arith, length-take-le count ears enough);
        each = new_first ears count c.args.self.now.are_new;
      },
    )
