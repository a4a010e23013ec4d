use Rattle.std.proofs.Common.{◌≡◌, drop, fold}
use Rattle.published_account.proofs.showing.show.Given as goal

abbrev pub invariant-loop : goal.invariant-loop
invariant-loop g l =
    (goal.iterator-loop g).can_next l.iterator' × (goal.iterator-loop g).is_finite l.iterator'
    × (fold (λ s o. o) l.writer.desk.shown.value (drop l.writer.behind l.writer.log.items) ≡ l.fn.next) × (l.writer.desk.shown.value ≡ l.fn.writer.desk.shown.value)
