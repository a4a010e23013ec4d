use Rattle.std.proofs.Common.{◌++◌, [], ◌∷◌, map, take, drop, length, ◌-◌, ap, ◌∙◌, append_assoc}
use Rattle.std.proofs.lemmas.List.{map-append}
use Rattle.std.specs.Arc.{arc_value}
use Rattle.persist_map.proofs.ReadFacts.{seen_front, seen_back}
use Rattle.persist_map.proofs.parts.Part.with_pair.Goals as goal

pub returns : goal.returns
returns g c =
    let pairs = c.as_slice-pairs.result.now in
    let items = c.self.inside.pairs.items in
    let same = c.as_slice-pairs.ensures.value in
    let front = c.in_ok-changed.ensures ∙ seen_front arc_value items pairs c.args.self.now same c.self.view_is c.args.place in
    let back = seen_back arc_value items pairs c.args.self.now same c.self.view_is c.args.next in
    c.in_ok-add_shared.ensures
    ∙ ap (λ l. l ++ map arc_value (take (length pairs - c.args.next) (drop c.args.next pairs))) (ap (map arc_value) c.in_ok-push.ensures.items ∙ map-append arc_value c.in_ok-changed.changed.items (c.args.pair ∷ []) ∙ ap (λ l. l ++ (arc_value c.args.pair ∷ [])) front)
    ∙ ap (λ l. (take c.args.place c.args.self.now ++ (arc_value c.args.pair ∷ [])) ++ l) back
    ∙ append_assoc (take c.args.place c.args.self.now) (arc_value c.args.pair ∷ []) (drop c.args.next c.args.self.now)
