use Rattle.std.proofs.Common.{◌≡◌, ◌/◌, ◌++◌, [], ◌∷◌, map, take, drop, ap, ◌∙◌, arith}
use Rattle.std.specs.Arc.{arc_value}
use Rattle.persist_map.proofs.Halves.{halves_joined, halves_sizes}
use Rattle.persist_map.proofs.maps.halves_of.Goals as goal

pub returns-clause-pairs : goal.returns-clause-pairs
returns-clause-pairs g c =
    let n = c.len-half.result / 2 in
    let items = c.args.pairs.items in
    let first = c.in_ok-first.first in
    let second = c.in_ok-second.second in
    let pushed : c.push-2.new.self.items ≡ first ∷ second ∷ [] = c.in_ok-push-2.ensures.items ∙ ap (λ l. l ++ (second ∷ [])) (c.in_ok-push.ensures.items ∙ ap (λ l. l ++ (first ∷ [])) c.in_ok-parts.ensures.items) in
    let two : map arc_value c.push-2.new.self.items ≡ map arc_value (take n items) ∷ map arc_value (drop n items) ∷ [] =
    ap (map arc_value) pushed
    ∙ ap (λ l. l ∷ arc_value second ∷ []) (c.in_ok-first.ensures ∙ ap (map arc_value) c.in_ok-later.ensures.items)
    ∙ ap (λ l. map arc_value (take n items) ∷ l ∷ []) (c.in_ok-second.ensures ∙ ap (map arc_value) c.in_ok-later.ensures.tail) in
    halves_joined arc_value items n (map arc_value c.push-2.new.self.items) two

pub returns-clause-sizes : goal.returns-clause-sizes
returns-clause-sizes g c =
    let n = c.len-half.result / 2 in
    let items = c.args.pairs.items in
    let first = c.in_ok-first.first in
    let second = c.in_ok-second.second in
    let pushed : c.push-2.new.self.items ≡ first ∷ second ∷ [] = c.in_ok-push-2.ensures.items ∙ ap (λ l. l ++ (second ∷ [])) (c.in_ok-push.ensures.items ∙ ap (λ l. l ++ (first ∷ [])) c.in_ok-parts.ensures.items) in
    let two : map arc_value c.push-2.new.self.items ≡ map arc_value (take n items) ∷ map arc_value (drop n items) ∷ [] =
    ap (map arc_value) pushed
    ∙ ap (λ l. l ∷ arc_value second ∷ []) (c.in_ok-first.ensures ∙ ap (map arc_value) c.in_ok-later.ensures.items)
    ∙ ap (λ l. map arc_value (take n items) ∷ l ∷ []) (c.in_ok-second.ensures ∙ ap (map arc_value) c.in_ok-later.ensures.tail) in
    let len = c.args.pairs.ok.0 in
    halves_sizes arc_value items n (map arc_value c.push-2.new.self.items) two (omega arith) (omega arith) (omega arith) (omega arith)
