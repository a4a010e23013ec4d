use Rattle.std.proofs.Common.{◌≡◌, ◌+◌, ◌-◌, ◌/◌, ◌<◌, true, false, length, refl, arith}
use Rattle.std.proofs.lemmas.List.{length-map}
use Rattle.std.specs.Arc.{arc_value}
use Rattle.persist_map.specs.Pairs.{is_below}
use Rattle.persist_map.proofs.Halving.{narrowed_up, narrowed_down, halved_up, halved_down, read_mapped}
use Rattle.persist_map.proofs.Orders.{pairs_parted}
use Rattle.persist_map.proofs.parts.count_below.Goals as goal

pub loop-low-preserved-then-is_lt : goal.loop-low-preserved-then-is_lt
loop-low-preserved-then-is_lt g c =
    let low = c.loop-low.low in
    let high = c.loop-low.high in
    let middle = low + (high - low) / 2 in
    let pairs = c.args.pairs.now in
    let known = c.loop-low.invariant.known in
    let in_range : middle < length pairs = omega (arith, known.in_range, length-map pairs arc_value) in
    let passed : is_below g.K.Ord.cmp c.args.key.now (arc_value c.index-pairs-middle.result) ≡ true = cc in
    record {
      known = narrowed_up _ _ (pairs_parted g.K.Ord.cmp g.met.K.Ord.total _ _ c.requires) low high middle known (omega arith) (omega arith) _ (read_mapped arc_value pairs middle c.index-pairs-middle.result in_range c.index-pairs-middle.is) passed;
      cost = omega (arith, halved_up low high middle c.loop-low-test.true refl);
    }

pub loop-low-preserved : goal.loop-low-preserved
loop-low-preserved g c =
    let low = c.loop-low.low in
    let high = c.loop-low.high in
    let middle = low + (high - low) / 2 in
    let pairs = c.args.pairs.now in
    let known = c.loop-low.invariant.known in
    let in_range : middle < length pairs = omega (arith, known.in_range, length-map pairs arc_value) in
    let failed : is_below g.K.Ord.cmp c.args.key.now (arc_value c.index-pairs-middle.result) ≡ false = cc in
    record {
      known = narrowed_down _ _ (pairs_parted g.K.Ord.cmp g.met.K.Ord.total _ _ c.requires) low high middle known (omega arith) (omega arith) _ (read_mapped arc_value pairs middle c.index-pairs-middle.result in_range c.index-pairs-middle.is) failed;
      cost = omega (arith, halved_down low high middle c.loop-low-test.true refl);
    }
