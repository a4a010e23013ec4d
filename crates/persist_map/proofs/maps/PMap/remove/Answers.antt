use Rattle.std.proofs.Common.{◌≡◌, ◌+◌, ◌<◌, ◌++◌, [], length, map, take, drop, sym, ap, ◌∙◌, subst, arith}
use Rattle.std.proofs.lemmas.List.{length-map}
use Rattle.std.specs.Arc.{arc_value}
use Rattle.std.specs.Result.{IfOk}
use Rattle.persist_map.specs.Pairs.{without_key}
use Rattle.persist_map.specs.Parts.{IsTree, joined}
use Rattle.persist_map.proofs.Halving.{read_value}
use Rattle.persist_map.proofs.Placed.{place_within, few_in_part, few_without, changed_without, begins_there, list_without, tree_without, length_without, without_missing}
use Rattle.persist_map.proofs.maps.PMap.remove.Goals as goal

pub returns-then-not-has_key_at : goal.returns-then-not-has_key_at
returns-then-not-has_key_at g c =
    let cmp = g.K.Ord.cmp in
    let key = c.args.key.now in
    let read = c.as_slice-parts.result.now in
    let parts = map arc_value read in
    let place = c.in-Some.place in
    let at = c.in-Some.ensures.place in
    let tree = subst (λ l. IsTree cmp (map arc_value l)) (sym c.as_slice-parts.ensures.value) c.self.invariant.0 in
    let whole = ap (λ l. joined (map arc_value l)) c.as_slice-parts.ensures.value ∙ c.self.view_is in
    let in_range : place.part < length read = omega (arith, at.part_in_range, length-map read arc_value) in
    let part = c.deref-part.result.now in
    let part_is = read_value arc_value read place.part c.index-parts-place.result part [] in_range c.index-parts-place.is c.deref-part.ensures in
    let missing = sym (begins_there cmp key parts place part part_is c.has_key_at.result c.has_key_at.ensures) ∙ c.if-not-has_key_at.true in
    let same = sym whole ∙ sym (without_missing g.met.K.Ord.total key parts tree place at missing) ∙ ap (λ l. without_key cmp l key) whole in
    subst (λ l. IfOk c.share-then-not-has_key_at.result (λ m. m ≡ l)) same c.share-then-not-has_key_at.ensures

pub parts_of-requires-clause-few : goal.parts_of-requires-clause-few
parts_of-requires-clause-few g c =
    let cmp = g.K.Ord.cmp in
    let key = c.args.key.now in
    let read = c.as_slice-parts.result.now in
    let parts = map arc_value read in
    let place = c.in-Some.place in
    let at = c.in-Some.ensures.place in
    let tree = subst (λ l. IsTree cmp (map arc_value l)) (sym c.as_slice-parts.ensures.value) c.self.invariant.0 in
    let whole = ap (λ l. joined (map arc_value l)) c.as_slice-parts.ensures.value ∙ c.self.view_is in
    let in_range : place.part < length read = omega (arith, at.part_in_range, length-map read arc_value) in
    let part = c.deref-part.result.now in
    let part_is = read_value arc_value read place.part c.index-parts-place.result part [] in_range c.index-parts-place.is c.deref-part.ensures in
    let within = place_within cmp key place.pair part (sym c.has_key_at.ensures ∙ c.if-not-has_key_at.false) in
    few_without arc_value c.in_ok-pairs.pairs.items part place.pair c.in_ok-pairs.ensures within (few_in_part cmp key parts place part part_is tree.sizes at.part_in_range)

pub overflow_sub-len : goal.overflow_sub-len
overflow_sub-len g c =
    let cmp = g.K.Ord.cmp in
    let key = c.args.key.now in
    let read = c.as_slice-parts.result.now in
    let parts = map arc_value read in
    let place = c.in-Some.place in
    let at = c.in-Some.ensures.place in
    let tree = subst (λ l. IsTree cmp (map arc_value l)) (sym c.as_slice-parts.ensures.value) c.self.invariant.0 in
    let whole = ap (λ l. joined (map arc_value l)) c.as_slice-parts.ensures.value ∙ c.self.view_is in
    let in_range : place.part < length read = omega (arith, at.part_in_range, length-map read arc_value) in
    let part = c.deref-part.result.now in
    let part_is = read_value arc_value read place.part c.index-parts-place.result part [] in_range c.index-parts-place.is c.deref-part.ensures in
    let changed = map arc_value c.in_ok-changed.changed.items in
    let all = map arc_value c.in_ok-parts.parts.items in
    let is = c.in_ok-parts.ensures ∙ ap (λ l. (take place.part parts ++ map arc_value l) ++ drop (place.part + 1) parts) c.as_slice.ensures.value in
    let is_changed = changed_without cmp key parts place part part_is (map arc_value c.in_ok-pairs.pairs.items) c.in_ok-pairs.ensures changed c.in_ok-changed.ensures.pairs in
    let there = sym (begins_there cmp key parts place part part_is c.has_key_at.result c.has_key_at.ensures) ∙ c.if-not-has_key_at.false in
    let fewer = length_without g.met.K.Ord.total key parts tree place at changed all is is_changed there in
    let same = ap length whole in
    let len = c.self.invariant.1 in
    let len_now = ap length c.self.view_is in
    omega arith

pub invariant_of-result : goal.invariant_of-result
invariant_of-result g c =
    let cmp = g.K.Ord.cmp in
    let key = c.args.key.now in
    let read = c.as_slice-parts.result.now in
    let parts = map arc_value read in
    let place = c.in-Some.place in
    let at = c.in-Some.ensures.place in
    let tree = subst (λ l. IsTree cmp (map arc_value l)) (sym c.as_slice-parts.ensures.value) c.self.invariant.0 in
    let whole = ap (λ l. joined (map arc_value l)) c.as_slice-parts.ensures.value ∙ c.self.view_is in
    let in_range : place.part < length read = omega (arith, at.part_in_range, length-map read arc_value) in
    let part = c.deref-part.result.now in
    let part_is = read_value arc_value read place.part c.index-parts-place.result part [] in_range c.index-parts-place.is c.deref-part.ensures in
    let changed = map arc_value c.in_ok-changed.changed.items in
    let all = map arc_value c.in_ok-parts.parts.items in
    let is = c.in_ok-parts.ensures ∙ ap (λ l. (take place.part parts ++ map arc_value l) ++ drop (place.part + 1) parts) c.as_slice.ensures.value in
    let is_changed = changed_without cmp key parts place part part_is (map arc_value c.in_ok-pairs.pairs.items) c.in_ok-pairs.ensures changed c.in_ok-changed.ensures.pairs in
    let there = sym (begins_there cmp key parts place part part_is c.has_key_at.result c.has_key_at.ensures) ∙ c.if-not-has_key_at.false in
    let fewer = length_without g.met.K.Ord.total key parts tree place at changed all is is_changed there in
    let same = ap length whole in
    let len = c.self.invariant.1 in
    let len_now = ap length c.self.view_is in
    (tree_without g.met.K.Ord.total key parts tree place at changed all is is_changed there c.in_ok-changed.ensures.sizes, omega arith)

pub returns : goal.returns
returns g c =
    let cmp = g.K.Ord.cmp in
    let key = c.args.key.now in
    let read = c.as_slice-parts.result.now in
    let parts = map arc_value read in
    let place = c.in-Some.place in
    let at = c.in-Some.ensures.place in
    let tree = subst (λ l. IsTree cmp (map arc_value l)) (sym c.as_slice-parts.ensures.value) c.self.invariant.0 in
    let whole = ap (λ l. joined (map arc_value l)) c.as_slice-parts.ensures.value ∙ c.self.view_is in
    let in_range : place.part < length read = omega (arith, at.part_in_range, length-map read arc_value) in
    let part = c.deref-part.result.now in
    let part_is = read_value arc_value read place.part c.index-parts-place.result part [] in_range c.index-parts-place.is c.deref-part.ensures in
    let changed = map arc_value c.in_ok-changed.changed.items in
    let all = map arc_value c.in_ok-parts.parts.items in
    let is = c.in_ok-parts.ensures ∙ ap (λ l. (take place.part parts ++ map arc_value l) ++ drop (place.part + 1) parts) c.as_slice.ensures.value in
    let is_changed = changed_without cmp key parts place part part_is (map arc_value c.in_ok-pairs.pairs.items) c.in_ok-pairs.ensures changed c.in_ok-changed.ensures.pairs in
    let there = sym (begins_there cmp key parts place part part_is c.has_key_at.result c.has_key_at.ensures) ∙ c.if-not-has_key_at.false in
    list_without g.met.K.Ord.total key parts tree place at changed all is is_changed there ∙ ap (λ l. without_key cmp l key) whole
