use Rattle.std.proofs.Common.{◌≡◌, ◌++◌, [], ◌∷◌, List, All, length, ◌+◌, map, sym, ap, ◌∙◌, subst}
use Rattle.std.proofs.lemmas.List.{map-append}
use Rattle.std.specs.Arc.{arc_value}
use Rattle.std.specs.declared.cmp.Ordering.TheVariants.{Less}
use Rattle.persist_map.proofs.Placed.{tree_behind, length_behind}
use Rattle.persist_map.proofs.maps.PMap.appended.Goals as goal

pub invariant_of-result : goal.invariant_of-result
invariant_of-result g c =
    let parts = map arc_value c.self.inside.parts.items in
    let all = map arc_value c.push.new.self.items in
    let part = c.in_ok-part.part in
    let pushed : c.push.new.self.items ≡ c.in_ok-parts.parts.items ++ (part ∷ []) = c.in_ok-push.ensures.items in
    let is : all ≡ parts ++ (((c.args.key, c.args.value) ∷ []) ∷ []) =
    ap (map arc_value) pushed ∙ map-append arc_value c.in_ok-parts.parts.items (part ∷ [])
    ∙ ap (λ l. l ++ (arc_value part ∷ [])) (c.in_ok-parts.ensures ∙ ap (map arc_value) c.as_slice.ensures.value)
    ∙ ap (λ p. parts ++ (p ∷ [])) c.in_ok-part.ensures in
    let below = subst (All (λ (pair : g.row.K.Denot × g.row.V.Denot). g.K.Ord.cmp pair.0 c.args.key ≡ Less)) (sym c.self.view_is) c.requires in (
      tree_behind g.met.K.Ord.total c.args.key c.args.value parts c.self.invariant.0 below all is,
      c.in_ok-len.ensures ∙ ap (λ (l : List (g.row.K.Denot × g.row.V.Denot)). length l + 1) (sym c.self.view_is) ∙ sym (length_behind g.met.K.Ord.total c.args.key c.args.value parts c.self.invariant.0 below all is),
    )
