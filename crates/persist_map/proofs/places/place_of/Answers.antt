use Rattle.std.proofs.Common.{◌<◌, [], length, map, sym, ap, subst, arith}
use Rattle.std.proofs.lemmas.List.{length-map}
use Rattle.std.specs.Arc.{arc_value}
use Rattle.persist_map.specs.Pairs.{Ascends, is_below}
use Rattle.persist_map.specs.Parts.{IsCut, joined}
use Rattle.persist_map.proofs.Halving.{read_value, some_items, binary_digits-le}
use Rattle.persist_map.proofs.Tree.{place_found, part_ascends, length-joined, length-part}
use Rattle.persist_map.proofs.places.place_of.Goals as goal

pub count_below-pair-requires : goal.count_below-pair-requires
count_below-pair-requires g c =
    let parts = map arc_value c.args.parts.now in
    let place = c.saturating_sub-part.result in
    let some = some_items c.args.parts.now c.is_empty.result c.is_empty.ensures c.if-is_empty.false in
    let same_len = length-map c.args.parts.now arc_value in
    let in_range : place < length c.args.parts.now = omega (arith, c.count_parts.ensures.place.in_range) in
    let part = read_value arc_value c.args.parts.now place c.index-parts-part.result c.deref.result.now [] in_range c.index-parts-part.is c.deref.ensures in
    subst (Ascends g.K.Ord.cmp) (sym part) (part_ascends g.K.Ord.cmp parts place (omega arith) c.requires.ascends)

pub returns-clause-place : goal.returns-clause-place
returns-clause-place g c =
    let parts = map arc_value c.args.parts.now in
    let place = c.saturating_sub-part.result in
    let some = some_items c.args.parts.now c.is_empty.result c.is_empty.ensures c.if-is_empty.false in
    let same_len = length-map c.args.parts.now arc_value in
    let in_range : place < length c.args.parts.now = omega (arith, c.count_parts.ensures.place.in_range) in
    let part = read_value arc_value c.args.parts.now place c.index-parts-part.result c.deref.result.now [] in_range c.index-parts-part.is c.deref.ensures in
    place_found g.met.K.Ord.total c.args.key.now parts c.requires c.count_parts.result c.count_parts.ensures.place (omega arith) _ c.saturating_sub-part.ensures
    (subst (λ l. IsCut (is_below g.K.Ord.cmp c.args.key.now) l c.count_below-pair.result) part c.count_below-pair.ensures.place)

pub returns-clause-cost : goal.returns-clause-cost
returns-clause-cost g c =
    let parts = map arc_value c.args.parts.now in
    let place = c.saturating_sub-part.result in
    let some = some_items c.args.parts.now c.is_empty.result c.is_empty.ensures c.if-is_empty.false in
    let same_len = length-map c.args.parts.now arc_value in
    let in_range : place < length c.args.parts.now = omega (arith, c.count_parts.ensures.place.in_range) in
    let part = read_value arc_value c.args.parts.now place c.index-parts-part.result c.deref.result.now [] in_range c.index-parts-part.is c.deref.ensures in
    let part_len = ap length part in
    let outer = length-joined parts c.requires.sizes in
    let inner = length-part parts place (omega arith) in
    omega (arith, c.count_parts.ensures.cost, c.count_below-pair.ensures.cost, binary_digits-le (length c.args.parts.now) (length (joined parts)) (omega arith), binary_digits-le (length c.deref.result.now) (length (joined parts)) (omega arith))
