use Rattle.std.proofs.Common.{◌≡◌, ◌+◌, ◌-◌, ◌/◌, ◌<◌, true, false, not, length, refl, sym, ap, ◌∙◌, arith}
use Rattle.std.proofs.lemmas.List.{length-map}
use Rattle.std.specs.Arc.{arc_value}
use Rattle.persist_map.specs.Parts.{begins_above}
use Rattle.persist_map.proofs.Halving.{narrowed_up, narrowed_down, halved_up, halved_down, read_mapped}
use Rattle.persist_map.proofs.Tree.{parts_parted}
use Rattle.persist_map.proofs.places.count_parts.Goals as goal

pub loop-low-preserved-then-begins_above : goal.loop-low-preserved-then-begins_above
loop-low-preserved-then-begins_above g c =
    let low = c.loop-low.low in
    let high = c.loop-low.high in
    let middle = low + (high - low) / 2 in
    let parts = c.args.parts.now in
    let known = c.loop-low.invariant.known in
    let in_range : middle < length parts = omega (arith, known.in_range, length-map parts arc_value) in
    let failed : not (begins_above g.K.Ord.cmp c.args.key.now (arc_value c.index-parts-middle.result)) ≡ false = ap (λ part. not (begins_above g.K.Ord.cmp c.args.key.now part)) (sym c.deref.ensures) ∙ ap not (sym c.begins_above.ensures ∙ c.if-begins_above.true) in
    record {
      known = narrowed_down _ _ (parts_parted g.met.K.Ord.total c.args.key.now _ c.requires) low high middle known (omega arith) (omega arith) _ (read_mapped arc_value parts middle c.index-parts-middle.result in_range c.index-parts-middle.is) failed;
      cost = omega (arith, halved_down low high middle c.loop-low-test.true refl);
    }

pub loop-low-preserved : goal.loop-low-preserved
loop-low-preserved g c =
    let low = c.loop-low.low in
    let high = c.loop-low.high in
    let middle = low + (high - low) / 2 in
    let parts = c.args.parts.now in
    let known = c.loop-low.invariant.known in
    let in_range : middle < length parts = omega (arith, known.in_range, length-map parts arc_value) in
    let passed : not (begins_above g.K.Ord.cmp c.args.key.now (arc_value c.index-parts-middle.result)) ≡ true = ap (λ part. not (begins_above g.K.Ord.cmp c.args.key.now part)) (sym c.deref.ensures) ∙ ap not (sym c.begins_above.ensures ∙ c.if-begins_above.false) in
    record {
      known = narrowed_up _ _ (parts_parted g.met.K.Ord.total c.args.key.now _ c.requires) low high middle known (omega arith) (omega arith) _ (read_mapped arc_value parts middle c.index-parts-middle.result in_range c.index-parts-middle.is) passed;
      cost = omega (arith, halved_up low high middle c.loop-low-test.true refl);
    }
