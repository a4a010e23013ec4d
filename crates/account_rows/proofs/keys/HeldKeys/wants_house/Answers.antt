use Rattle.std.proofs.Common.{List, ap, sym, subst, ◌∙◌}
use Rattle.persist_map.specs.Pairs.{Ascends}
use Rattle.key_states.specs.declared.rows.KeyRow.{KeyRow}
use Rattle.account_rows.specs.Changes.{wants_house}
use Rattle.account_rows.specs.Keys.{AreInOrder}
use Rattle.account_rows.proofs.DateFacts.{due_cmp, by_dates, first_has_come, first_tells}
use Rattle.account_rows.proofs.keys.HeldKeys.wants_house.Goals as goal

pub returns-in-Some : goal.returns-in-Some
returns-in-Some c =
    let order = subst AreInOrder (sym c.self.view_is) c.requires in
    let ascends = subst (Ascends due_cmp) c.iter.ensures.pairs c.iter.ensures.ascends in
    ap (first_has_come due_cmp by_dates c.args.moment) (sym c.in-Some.ensures.steps ∙ c.iter.ensures.pairs)
    ∙ first_tells due_cmp by_dates c.args.moment c.self.inside.rows c.self.inside.dates c.self.invariant.keyed c.self.invariant.dates order ascends
    ∙ ap (wants_house c.args.moment) c.self.view_is

pub returns-in-None : goal.returns-in-None
returns-in-None c =
    let order = subst AreInOrder (sym c.self.view_is) c.requires in
    let ascends = subst (Ascends due_cmp) c.iter.ensures.pairs c.iter.ensures.ascends in
    ap (first_has_come due_cmp by_dates c.args.moment) (sym c.in-None.ensures.steps.0 ∙ c.iter.ensures.pairs)
    ∙ first_tells due_cmp by_dates c.args.moment c.self.inside.rows c.self.inside.dates c.self.invariant.keyed c.self.invariant.dates order ascends
    ∙ ap (wants_house c.args.moment) c.self.view_is
