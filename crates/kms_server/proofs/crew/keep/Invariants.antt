use Rattle.std.proofs.Common.{◌≡◌, ◌≤◌}
use Rattle.publish_pass.specs.Pass.{Pass}
use Rattle.kms_server.proofs.crew.keep.Given as goal

abbrev pub invariant-loop : goal.invariant-loop
invariant-loop g l =
    (goal.iterator-loop g).can_next l.iterator' × (goal.iterator-loop g).is_finite l.iterator'
    × (l.pass ≡ (let p : Pass = record l.fn.pass { missed = l.pass.missed } in p)) × (l.fn.pass.missed ≤ l.pass.missed)
