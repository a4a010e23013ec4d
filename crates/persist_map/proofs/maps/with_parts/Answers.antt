use Rattle.std.proofs.Common.{◌+◌, ◌-◌, ◌++◌, map, length, take, drop, refl, ap, ◌∙◌}
use Rattle.std.specs.Arc.{arc_value}
use Rattle.persist_map.proofs.ReadFacts.{seen_front, seen_back}
use Rattle.persist_map.proofs.maps.with_parts.Goals as goal

pub returns : goal.returns
returns g c =
    let parts = c.args.parts.now in
    let back = take (length parts - (c.args.place + 1)) (drop (c.args.place + 1) parts) in
    let front = c.in_ok-all.ensures ∙ seen_front arc_value parts parts (map arc_value parts) refl refl c.args.place in
    c.in_ok-add_shared-2.ensures
    ∙ ap (λ l. l ++ map arc_value back) (c.in_ok-add_shared.ensures ∙ ap (λ l. l ++ map arc_value c.args.changed.now) front)
    ∙ ap (λ l. (take c.args.place (map arc_value parts) ++ map arc_value c.args.changed.now) ++ l) (seen_back arc_value parts parts (map arc_value parts) refl refl (c.args.place + 1))
