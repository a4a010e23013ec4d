use Rattle.std.proofs.Common.{Some, sym, ap, ◌∙◌}
use Rattle.std.specs.Arc.{arc_value}
use Rattle.std.specs.Ordering.{is_eq}
use Rattle.persist_map.proofs.ReadFacts.{drop_read, first_value_there, first_value_missing}
use Rattle.persist_map.proofs.parts.Part.value_at.Goals as goal

pub returns-then-is_eq : goal.returns-then-is_eq
returns-then-is_eq g c =
    let read = c.in_ok-pair.ensures.lookup in
    let here = drop_read arc_value c.self.inside.pairs.items c.deref.result.now c.args.self.now c.args.place c.in_ok-pair.pair.now c.deref.ensures.value c.self.view_is read.3.0 read.1 in
    let has_key = sym (c.is_eq.ensures ∙ ap is_eq c.cmp.ensures ∙ ap (λ pair. is_eq (g.K.Ord.cmp pair.0 c.args.key.now)) c.deref-2.ensures) ∙ c.if-is_eq.true in
    ap (λ pair. Some pair.1) c.deref-then-is_eq.ensures ∙ sym (first_value_there g.K.Ord.cmp c.args.key.now _ _ (arc_value c.in_ok-pair.pair.now) here has_key)

pub returns-else-is_eq : goal.returns-else-is_eq
returns-else-is_eq g c =
    let read = c.in_ok-pair.ensures.lookup in
    let here = drop_read arc_value c.self.inside.pairs.items c.deref.result.now c.args.self.now c.args.place c.in_ok-pair.pair.now c.deref.ensures.value c.self.view_is read.3.0 read.1 in
    let has_key = sym (c.is_eq.ensures ∙ ap is_eq c.cmp.ensures ∙ ap (λ pair. is_eq (g.K.Ord.cmp pair.0 c.args.key.now)) c.deref-2.ensures) ∙ c.if-is_eq.false in
    sym (first_value_missing g.K.Ord.cmp c.args.key.now _ _ (arc_value c.in_ok-pair.pair.now) here has_key)
