use Rattle.std.proofs.Common.{◌≡◌, Some, take, drop, ap, refl, arith, ◌∙◌}
use Rattle.kms_io.proofs.Pieces.{taken_next, left_next}
use Rattle.kms_io.proofs.memory_link.MemoryLinkLink.read_some.Goals as goal

pub returns-clause-reads : goal.returns-clause-reads
returns-clause-reads c =
    let all = c.args.self.now.input.items in
    let at = c.args.self.now.at in
    let n = c.piece_at-count.result in
    let same : take n c.give.new.room ≡ take n (drop at all) = c.give.ensures ∙ ap (λ input. take n (drop at input)) c.deref-3.ensures.value in (
      omega arith,
      omega arith,
      record {
        taken = ap Some (taken_next at n all (drop at all) c.give.new.room refl same);
        left = ap Some (left_next at n all (drop at all) c.give.new.room refl same);
        faults = omega arith;
        written = refl;
        write_faults = refl;
      },
      c.add.ensures,
    )
