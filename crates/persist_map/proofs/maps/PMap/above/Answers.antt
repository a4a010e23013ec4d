use Rattle.std.proofs.Common.{◌+◌, ◌-◌, ◌<◌, ◌++◌, [], length, map, take, drop, get_or, refl, sym, ap, ◌∙◌, subst, arith}
use Rattle.std.proofs.lemmas.List.{length-map}
use Rattle.std.specs.Arc.{arc_value}
use Rattle.persist_map.specs.Parts.{IsTree, joined, begins_with}
use Rattle.persist_map.specs.Pairs.{Ascends, pairs_above}
use Rattle.persist_map.proofs.Halving.{read_value}
use Rattle.persist_map.proofs.ReadFacts.{seen_back}
use Rattle.persist_map.proofs.Edits.{rest_behind}
use Rattle.persist_map.proofs.Placed.{above_found, ascends_above, drop_behind, begins_there}
use Rattle.persist_map.proofs.maps.PMap.above.Goals as goal

pub returns : goal.returns
returns g c =
    let cmp = g.K.Ord.cmp in
    let key = c.args.key.now in
    let read = c.as_slice-parts.result.now in
    let parts = map arc_value read in
    let place = c.in-Some.place in
    let at = c.in-Some.ensures.place in
    let tree = subst (λ l. IsTree cmp (map arc_value l)) (sym c.as_slice-parts.ensures.value) c.self.invariant.0 in
    let whole = ap (λ l. joined (map arc_value l)) c.as_slice-parts.ensures.value ∙ c.self.view_is in
    let in_range : place.part < length read = omega (arith, at.part_in_range, length-map read arc_value) in
    let part = c.deref-part.result.now in
    let part_is = read_value arc_value read place.part c.index-parts-place.result part [] in_range c.index-parts-place.is c.deref-part.ensures in
    let here = drop place.pair (get_or parts place.part []) in
    let there = begins_there cmp key parts place part part_is c.has_key_at.result c.has_key_at.ensures in
    let later = seen_back arc_value read read parts refl refl (place.part + 1) in
    let first = c.pairs_from.ensures ∙ drop_behind c.has_key_at.result place.pair c.place_behind-next.result part c.place_behind-next.ensures ∙ ap (λ l. rest_behind c.has_key_at.result (drop place.pair l)) part_is ∙ ap (λ b. rest_behind b here) there in
    let all = ap (λ l. l ++ joined (map arc_value (take (length read - (place.part + 1)) (drop (place.part + 1) read)))) first ∙ ap (λ l. rest_behind (begins_with cmp key here) here ++ joined l) later in
    record {
      pairs = all ∙ sym (above_found g.met.K.Ord.total key parts tree place at) ∙ ap (λ l. pairs_above cmp l key) whole;
      ascends = subst (Ascends cmp) (sym all) (ascends_above g.met.K.Ord.total key parts tree place at);
    }
