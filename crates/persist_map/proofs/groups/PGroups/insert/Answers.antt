use Rattle.std.proofs.Common.{◌≡◌, ◌<◌, length, sym, ap, ◌∙◌, subst}
use Rattle.std.specs.Ordering.{nat_cmp}
use Rattle.persist_map.specs.Pairs.{with_pair}
use Rattle.persist_map.specs.Groups.{group_of, HaveSome}
use Rattle.persist_map.proofs.GroupFacts.{found, not_found, with_group, have_some_with, some_with}
use Rattle.persist_map.proofs.groups.PGroups.insert.Goals as goal
use Rattle.persist_map.proofs.groups.PGroups.insert.Goals.{in-Some+in_ok-group-in-Some, in-None+in_ok-group-in-None}

pub invariant_of-result : goal.invariant_of-result
invariant_of-result g c =
    let groups = c.args.self.now in
    let key = c.args.key in
    let group : c.match-group_in.group ≡ with_pair nat_cmp (group_of g.K.Ord.cmp groups key) c.args.place c.args.value = elim c.match-group_in.branch [
      | in-Some+in_ok-group-in-Some w ↦
          w.group-is ∙ w.in_ok-group-in-Some.ensures ∙ ap (λ l. with_pair nat_cmp l c.args.place c.args.value) (found g.K.Ord.cmp groups c.self.inside.groups key c.self.view_is w.in-Some.group.now w.in-Some.ensures)
      | in-None+in_ok-group-in-None w ↦
          w.group-is ∙ w.in_ok-group-in-None.ensures ∙ ap (λ l. with_pair nat_cmp l c.args.place c.args.value) (w.new.ensures ∙ not_found g.K.Ord.cmp groups c.self.inside.groups key c.self.view_is w.in-None.ensures)
    ] in
    subst HaveSome (sym c.in_ok-insert.ensures)
    (have_some_with g.met.K.Ord.total c.self.inside.groups key c.match-group_in.group c.self.invariant (subst (λ l. 0 < length l) (sym group) (some_with (group_of g.K.Ord.cmp groups key) c.args.place c.args.value)))

pub returns : goal.returns
returns g c =
    let groups = c.args.self.now in
    let key = c.args.key in
    let group : c.match-group_in.group ≡ with_pair nat_cmp (group_of g.K.Ord.cmp groups key) c.args.place c.args.value = elim c.match-group_in.branch [
      | in-Some+in_ok-group-in-Some w ↦
          w.group-is ∙ w.in_ok-group-in-Some.ensures ∙ ap (λ l. with_pair nat_cmp l c.args.place c.args.value) (found g.K.Ord.cmp groups c.self.inside.groups key c.self.view_is w.in-Some.group.now w.in-Some.ensures)
      | in-None+in_ok-group-in-None w ↦
          w.group-is ∙ w.in_ok-group-in-None.ensures ∙ ap (λ l. with_pair nat_cmp l c.args.place c.args.value) (w.new.ensures ∙ not_found g.K.Ord.cmp groups c.self.inside.groups key c.self.view_is w.in-None.ensures)
    ] in
    with_group g.met.K.Ord.total groups key c.in_ok-insert.field-0 c.args.place c.match-group_in.group c.args.value group (c.in_ok-insert.ensures ∙ ap (λ l. with_pair g.K.Ord.cmp l key c.match-group_in.group) c.self.view_is)
