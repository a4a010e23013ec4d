use Rattle.std.proofs.Common.{◌≡◌, ◌-◌, suc, arith}
use Rattle.cond_ops.proofs.ColonFacts.{more_colons, fewer_colons}
use Rattle.cond_ops.proofs.colons.+has_colons.Goals as goal

pub returns-in-Some : goal.returns-in-Some
returns-in-Some t c =
    let s = c.in-Some in
    let e : c.args.colons ≡ suc (c.args.colons - 1) = omega arith in (
      λ yes. more_colons _ _ e _ _ _ s.ensures (c.has_colons.ensures.0 yes),
      λ has. c.has_colons.ensures.1 (fewer_colons _ _ e _ _ _ s.ensures has),
    )
