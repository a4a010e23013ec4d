use Rattle.std.proofs.Common.{◌≡◌, sym, ap, ◌∙◌, subst}
use Rattle.std.specs.Ordering.{nat_cmp}
use Rattle.std.proofs.lemmas.Result.{IfOk-weaker}
use Rattle.persist_map.specs.Pairs.{with_pair, without_key, value_at}
use Rattle.persist_map.specs.Groups.{group_of, group_without, HaveSome}
use Rattle.persist_map.proofs.GroupFacts.{found, less_group, without_group, same_groups, have_some_with, have_some_without, some_left, none_left}
use Rattle.persist_map.proofs.groups.PGroups.remove.Goals as goal
use Rattle.persist_map.proofs.groups.PGroups.remove.Goals.{then-is_empty+in_ok-groups, else-is_empty+in_ok-groups-2}

pub returns-in_default : goal.returns-in_default
returns-in_default g c =
    let groups = c.args.self.now in
    let none = ap (λ l. value_at g.K.Ord.cmp l c.args.key) (sym c.self.view_is) ∙ sym c.in_default.ensures in
    IfOk-weaker c.share.result (λ changed. changed ≡ groups) (λ changed. (other : g.row.K.Denot) → group_of g.K.Ord.cmp changed other ≡ group_without g.K.Ord.cmp groups c.args.key c.args.place other)
    (λ changed same. same_groups g.met.K.Ord.total groups c.args.key changed c.args.place none same) c.share.ensures

pub invariant_of-result : goal.invariant_of-result
invariant_of-result g c = elim c.if-is_empty.branch [
  | then-is_empty+in_ok-groups w ↦ subst HaveSome (sym (w.groups-is ∙ w.in_ok-groups.ensures)) (have_some_without g.met.K.Ord.total c.self.inside.groups c.args.key c.self.invariant)
  | else-is_empty+in_ok-groups-2 w ↦ subst HaveSome (sym (w.groups-is ∙ w.in_ok-groups-2.ensures)) (have_some_with g.met.K.Ord.total c.self.inside.groups c.args.key c.in_ok-group.group c.self.invariant (some_left c.in_ok-group.group (sym c.is_empty.ensures ∙ w.if-is_empty.false)))
]

pub returns : goal.returns
returns g c =
    let groups = c.args.self.now in
    let key = c.args.key in
    let group : c.in_ok-group.group ≡ without_key nat_cmp (group_of g.K.Ord.cmp groups key) c.args.place = c.in_ok-group.ensures ∙ ap (λ l. without_key nat_cmp l c.args.place) (found g.K.Ord.cmp groups c.self.inside.groups key c.self.view_is c.in-Some.group.now c.in-Some.ensures) in
    elim c.if-is_empty.branch [
      | then-is_empty+in_ok-groups w ↦ without_group g.met.K.Ord.total groups key c.if-is_empty.groups c.args.place (sym (none_left c.in_ok-group.group (sym c.is_empty.ensures ∙ w.if-is_empty.true)) ∙ group) (w.groups-is ∙ w.in_ok-groups.ensures ∙ ap (λ l. without_key g.K.Ord.cmp l key) c.self.view_is)
      | else-is_empty+in_ok-groups-2 w ↦ less_group g.met.K.Ord.total groups key c.if-is_empty.groups c.args.place c.in_ok-group.group group (w.groups-is ∙ w.in_ok-groups-2.ensures ∙ ap (λ l. with_pair g.K.Ord.cmp l key c.in_ok-group.group) c.self.view_is)
    ]
