use Rattle.std.proofs.Common.{sym, ap, ◌∙◌}
use Rattle.std.specs.Arc.{arc_value}
use Rattle.std.specs.Ordering.{is_eq}
use Rattle.persist_map.proofs.ReadFacts.{drop_read, first_has_key}
use Rattle.persist_map.proofs.parts.Part.has_key_at.Goals as goal

pub returns-in-Some : goal.returns-in-Some
returns-in-Some g c =
    let read = c.in-Some.ensures.lookup in
    let here = drop_read arc_value c.self.inside.pairs.items c.deref.result.now c.args.self.now c.args.place c.in-Some.pair.now c.deref.ensures.value c.self.view_is read.3.0 read.1 in
    c.is_eq.ensures ∙ ap is_eq c.cmp.ensures ∙ ap (λ pair. is_eq (g.K.Ord.cmp pair.0 c.args.key.now)) c.deref-in-Some.ensures
    ∙ sym (first_has_key g.K.Ord.cmp c.args.key.now _ _ (arc_value c.in-Some.pair.now) here)
