use Rattle.std.proofs.Common.{◌+◌, ◌-◌, ◌<◌, ◌++◌, [], length, map, take, drop, get_or, refl, sym, ap, ◌∙◌, subst, arith}
use Rattle.std.proofs.lemmas.List.{length-map}
use Rattle.std.specs.Arc.{arc_value}
use Rattle.persist_map.specs.Parts.{IsTree, joined}
use Rattle.persist_map.specs.Pairs.{Ascends, pairs_from}
use Rattle.persist_map.proofs.Halving.{read_value}
use Rattle.persist_map.proofs.ReadFacts.{seen_back}
use Rattle.persist_map.proofs.Placed.{pairs_found, ascends_found}
use Rattle.persist_map.proofs.maps.PMap.from.Goals as goal

pub returns-in-Some-clause-pairs : goal.returns-in-Some-clause-pairs
returns-in-Some-clause-pairs g c =
    let cmp = g.K.Ord.cmp in
    let key = c.args.key.now in
    let read = c.as_slice-parts.result.now in
    let parts = map arc_value read in
    let place = c.in-Some.place in
    let at = c.in-Some.ensures.place in
    let tree = subst (λ l. IsTree cmp (map arc_value l)) (sym c.as_slice-parts.ensures.value) c.self.invariant.0 in
    let whole = ap (λ l. joined (map arc_value l)) c.as_slice-parts.ensures.value ∙ c.self.view_is in
    let in_range : place.part < length read = omega (arith, at.part_in_range, length-map read arc_value) in
    let part = read_value arc_value read place.part c.index-parts-place.result c.deref.result.now [] in_range c.index-parts-place.is c.deref.ensures in
    ap (λ l. l ++ joined (map arc_value (take (length read - (place.part + 1)) (drop (place.part + 1) read)))) (c.pairs_from.ensures ∙ ap (λ l. drop place.pair l) part)
    ∙ ap (λ l. drop place.pair (get_or parts place.part []) ++ joined l) (seen_back arc_value read read parts refl refl (place.part + 1))
    ∙ sym (pairs_found g.met.K.Ord.total key parts tree place at) ∙ ap (λ l. pairs_from cmp l key) whole

pub returns-in-Some-clause-ascends : goal.returns-in-Some-clause-ascends
returns-in-Some-clause-ascends g c =
    let cmp = g.K.Ord.cmp in
    let key = c.args.key.now in
    let read = c.as_slice-parts.result.now in
    let parts = map arc_value read in
    let place = c.in-Some.place in
    let at = c.in-Some.ensures.place in
    let tree = subst (λ l. IsTree cmp (map arc_value l)) (sym c.as_slice-parts.ensures.value) c.self.invariant.0 in
    let in_range : place.part < length read = omega (arith, at.part_in_range, length-map read arc_value) in
    let part = read_value arc_value read place.part c.index-parts-place.result c.deref.result.now [] in_range c.index-parts-place.is c.deref.ensures in
    subst (Ascends cmp)
    (sym (ap (λ l. l ++ joined (map arc_value (take (length read - (place.part + 1)) (drop (place.part + 1) read)))) (c.pairs_from.ensures ∙ ap (λ l. drop place.pair l) part)
    ∙ ap (λ l. drop place.pair (get_or parts place.part []) ++ joined l) (seen_back arc_value read read parts refl refl (place.part + 1))))
    (ascends_found g.met.K.Ord.total key parts tree place at)
