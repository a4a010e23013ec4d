use Rattle.std.proofs.Common.{◌≡◌, ◌+◌, ◌<◌, ◌++◌, cond, [], List, All, length, map, take, drop, sym, ap, ◌∙◌, subst, arith}
use Rattle.std.proofs.lemmas.List.{length-map}
use Rattle.std.proofs.lemmas.List.Elements.{recursion_from_All}
use Rattle.std.specs.Arc.{arc_value}
use Rattle.std.specs.Result.{IfOk}
use Rattle.std.specs.declared.cmp.Ordering.TheVariants.{Less}
use Rattle.persist_map.specs.Pairs.{with_pair}
use Rattle.persist_map.specs.Parts.{IsTree, joined}
use Rattle.persist_map.proofs.Halving.{read_value}
use Rattle.persist_map.proofs.Edits.{with_pair_behind}
use Rattle.persist_map.proofs.Placed.{all_below_last, few_in_part, few_with, changed_with, begins_there, list_with, tree_with, length_with}
use Rattle.persist_map.proofs.maps.PMap.insert.Goals as goal

pub appended-requires-then-is_full_before : goal.appended-requires-then-is_full_before
appended-requires-then-is_full_before g c =
    let cmp = g.K.Ord.cmp in
    let key = c.args.key in
    let read = c.as_slice-parts.result.now in
    let parts = map arc_value read in
    let place = c.in-Some.place in
    let at = c.in-Some.ensures.place in
    let tree = subst (λ l. IsTree cmp (map arc_value l)) (sym c.as_slice-parts.ensures.value) c.self.invariant.0 in
    let whole = ap (λ l. joined (map arc_value l)) c.as_slice-parts.ensures.value ∙ c.self.view_is in
    let in_range : place.part < length read = omega (arith, at.part_in_range, length-map read arc_value) in
    let part = c.deref-part.result.now in
    let part_is = read_value arc_value read place.part c.index-parts-place.result part [] in_range c.index-parts-place.is c.deref-part.ensures in
    let below = all_below_last g.met.K.Ord.total key parts tree place at (c.if-place-parts.true ∙ sym (length-map read arc_value)) (omega (arith, ap length part_is, c.if-is_full_before.ensures)) in
    let Below : List (g.row.K.Denot × g.row.V.Denot) → Type 0 = λ l. All (λ (pair : g.row.K.Denot × g.row.V.Denot). cmp pair.0 key ≡ Less) l in
    subst Below whole below

pub returns-then-is_full_before : goal.returns-then-is_full_before
returns-then-is_full_before g c =
    let cmp = g.K.Ord.cmp in
    let key = c.args.key in
    let read = c.as_slice-parts.result.now in
    let parts = map arc_value read in
    let place = c.in-Some.place in
    let at = c.in-Some.ensures.place in
    let tree = subst (λ l. IsTree cmp (map arc_value l)) (sym c.as_slice-parts.ensures.value) c.self.invariant.0 in
    let whole = ap (λ l. joined (map arc_value l)) c.as_slice-parts.ensures.value ∙ c.self.view_is in
    let in_range : place.part < length read = omega (arith, at.part_in_range, length-map read arc_value) in
    let part = c.deref-part.result.now in
    let part_is = read_value arc_value read place.part c.index-parts-place.result part [] in_range c.index-parts-place.is c.deref-part.ensures in
    let below = all_below_last g.met.K.Ord.total key parts tree place at (c.if-place-parts.true ∙ sym (length-map read arc_value)) (omega (arith, ap length part_is, c.if-is_full_before.ensures)) in
    let Below : List (g.row.K.Denot × g.row.V.Denot) → Type 0 = λ l. All (λ (pair : g.row.K.Denot × g.row.V.Denot). cmp pair.0 key ≡ Less) l in
    subst (λ l. IfOk c.appended-then-is_full_before.result (λ m. m ≡ l)) (sym (with_pair_behind cmp c.args.self.now key c.args.value (recursion_from_All (λ (pair : g.row.K.Denot × g.row.V.Denot). cmp pair.0 key ≡ Less) c.args.self.now (subst Below whole below)))) c.appended-then-is_full_before.ensures

pub parts_of-requires-clause-few : goal.parts_of-requires-clause-few
parts_of-requires-clause-few g c =
    let cmp = g.K.Ord.cmp in
    let key = c.args.key in
    let read = c.as_slice-parts.result.now in
    let parts = map arc_value read in
    let place = c.in-Some.place in
    let at = c.in-Some.ensures.place in
    let tree = subst (λ l. IsTree cmp (map arc_value l)) (sym c.as_slice-parts.ensures.value) c.self.invariant.0 in
    let whole = ap (λ l. joined (map arc_value l)) c.as_slice-parts.ensures.value ∙ c.self.view_is in
    let in_range : place.part < length read = omega (arith, at.part_in_range, length-map read arc_value) in
    let part = c.deref-part.result.now in
    let part_is = read_value arc_value read place.part c.index-parts-place.result part [] in_range c.index-parts-place.is c.deref-part.ensures in
    few_with arc_value c.in_ok-pairs.pairs.items part (arc_value c.in_ok-pair.pair) c.has_key_at-replaces.result place.pair c.place_behind-next.result c.in_ok-pairs.ensures c.place_behind-next.ensures (omega (arith, at.cut.in_range, ap length part_is)) (few_in_part cmp key parts place part part_is tree.sizes at.part_in_range)

pub invariant_of-result : goal.invariant_of-result
invariant_of-result g c =
    let cmp = g.K.Ord.cmp in
    let key = c.args.key in
    let read = c.as_slice-parts.result.now in
    let parts = map arc_value read in
    let place = c.in-Some.place in
    let at = c.in-Some.ensures.place in
    let tree = subst (λ l. IsTree cmp (map arc_value l)) (sym c.as_slice-parts.ensures.value) c.self.invariant.0 in
    let whole = ap (λ l. joined (map arc_value l)) c.as_slice-parts.ensures.value ∙ c.self.view_is in
    let in_range : place.part < length read = omega (arith, at.part_in_range, length-map read arc_value) in
    let part = c.deref-part.result.now in
    let part_is = read_value arc_value read place.part c.index-parts-place.result part [] in_range c.index-parts-place.is c.deref-part.ensures in
    let value = c.args.value in
    let b = c.has_key_at-replaces.result in
    let changed = map arc_value c.in_ok-changed.changed.items in
    let all = map arc_value c.in_ok-parts.parts.items in
    let is = c.in_ok-parts.ensures ∙ ap (λ l. (take place.part parts ++ map arc_value l) ++ drop (place.part + 1) parts) c.as_slice.ensures.value in
    let is_changed = changed_with cmp key parts place part part_is value b c.has_key_at-replaces.ensures c.place_behind-next.result c.place_behind-next.ensures (arc_value c.in_ok-pair.pair) c.in_ok-pair.ensures.ok (map arc_value c.in_ok-pairs.pairs.items) c.in_ok-pairs.ensures changed c.in_ok-changed.ensures.pairs in
    let there = begins_there cmp key parts place part part_is b c.has_key_at-replaces.ensures in (
      tree_with g.met.K.Ord.total key parts tree place at changed all is value is_changed c.in_ok-changed.ensures.sizes,
      c.in_ok-len.ensures ∙ ap (λ (l : List (g.row.K.Denot × g.row.V.Denot)). cond b (length l) (length l + 1)) (sym whole)
          ∙ ap (λ b. cond b (length (joined parts)) (length (joined parts) + 1)) there
          ∙ sym (length_with g.met.K.Ord.total key parts tree place at changed all is value is_changed),
    )

pub returns : goal.returns
returns g c =
    let cmp = g.K.Ord.cmp in
    let key = c.args.key in
    let read = c.as_slice-parts.result.now in
    let parts = map arc_value read in
    let place = c.in-Some.place in
    let at = c.in-Some.ensures.place in
    let tree = subst (λ l. IsTree cmp (map arc_value l)) (sym c.as_slice-parts.ensures.value) c.self.invariant.0 in
    let whole = ap (λ l. joined (map arc_value l)) c.as_slice-parts.ensures.value ∙ c.self.view_is in
    let in_range : place.part < length read = omega (arith, at.part_in_range, length-map read arc_value) in
    let part = c.deref-part.result.now in
    let part_is = read_value arc_value read place.part c.index-parts-place.result part [] in_range c.index-parts-place.is c.deref-part.ensures in
    let value = c.args.value in
    let b = c.has_key_at-replaces.result in
    let changed = map arc_value c.in_ok-changed.changed.items in
    let all = map arc_value c.in_ok-parts.parts.items in
    let is = c.in_ok-parts.ensures ∙ ap (λ l. (take place.part parts ++ map arc_value l) ++ drop (place.part + 1) parts) c.as_slice.ensures.value in
    let is_changed = changed_with cmp key parts place part part_is value b c.has_key_at-replaces.ensures c.place_behind-next.result c.place_behind-next.ensures (arc_value c.in_ok-pair.pair) c.in_ok-pair.ensures.ok (map arc_value c.in_ok-pairs.pairs.items) c.in_ok-pairs.ensures changed c.in_ok-changed.ensures.pairs in
    list_with g.met.K.Ord.total key parts tree place at changed all is value is_changed ∙ ap (λ l. with_pair cmp l key value) whole
