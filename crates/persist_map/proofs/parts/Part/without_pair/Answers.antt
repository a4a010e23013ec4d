use Rattle.std.proofs.Common.{◌+◌, ◌-◌, ◌++◌, map, length, take, drop, ap, ◌∙◌}
use Rattle.std.specs.Arc.{arc_value}
use Rattle.persist_map.proofs.ReadFacts.{seen_front, seen_back}
use Rattle.persist_map.proofs.parts.Part.without_pair.Goals as goal

pub returns : goal.returns
returns g c =
    let pairs = c.as_slice-pairs.result.now in
    let items = c.self.inside.pairs.items in
    let same = c.as_slice-pairs.ensures.value in
    let front = c.in_ok-changed.ensures ∙ seen_front arc_value items pairs c.args.self.now same c.self.view_is c.args.place in
    let back = seen_back arc_value items pairs c.args.self.now same c.self.view_is (c.args.place + 1) in
    c.in_ok-add_shared.ensures
    ∙ ap (λ l. l ++ map arc_value (take (length pairs - (c.args.place + 1)) (drop (c.args.place + 1) pairs))) front
    ∙ ap (λ l. take c.args.place c.args.self.now ++ l) back
