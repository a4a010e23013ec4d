use Rattle.std.proofs.Common.{◌<◌, ◌≤◌, ap, subst, arith, length}
use mathlib.Core.List.{IsPrefix}
use Rattle.published_account.specs.Growing.{Pairs}
use Rattle.published_account.proofs.Adding.{longer_first, longer_second}
use Rattle.published_account.proofs.prefix.Prefix.learn.Goals as goal

pub returns-then-self-other : goal.returns-then-self-other
returns-then-self-other g c =
    let both = c.learn.new.self.log in
    let this : IsPrefix c.self.inside.seen.log both = subst (λ (l : Pairs). IsPrefix l both) (ap (λ s. s.log) c.again-both.ensures) c.learn.ensures.2 in
    let less : length c.self.inside.seen.log < length c.other.inside.seen.log = omega (arith, c.self.invariant.0, c.other.invariant.0) in
    rw (c.drop.view_is, c.again.ensures, ← c.self.view_is, ← c.other.view_is)
    (record { longer = longer_second c.self.inside.seen.log c.other.inside.seen.log both this c.learn.ensures.3 less; history = c.other.invariant.2 })

pub returns : goal.returns
returns g c =
    let both = c.learn.new.self.log in
    let this : IsPrefix c.self.inside.seen.log both = subst (λ (l : Pairs). IsPrefix l both) (ap (λ s. s.log) c.again-both.ensures) c.learn.ensures.2 in
    let le : length c.other.inside.seen.log ≤ length c.self.inside.seen.log = omega (arith, c.self.invariant.0, c.other.invariant.0) in
    rw (← c.self.view_is, ← c.other.view_is)
    (record { longer = longer_first c.self.inside.seen.log c.other.inside.seen.log both this c.learn.ensures.3 le; history = c.self.invariant.2 })
