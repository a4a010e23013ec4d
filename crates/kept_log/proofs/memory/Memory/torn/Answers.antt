use Rattle.std.proofs.Common.{List, ℕ, sym, subst}
use Rattle.kept_log.specs.Memory.{LeftSince}
use Rattle.kept_log.proofs.Tears.{left_in_part}
use Rattle.kept_log.proofs.memory.Memory.torn.Goals as goal

pub returns-clause-left : goal.returns-clause-left
returns-clause-left g c =
    let mixes = g.M.Reading.is_mixing in
    let memory = c.args.self.now in
    subst (λ (f : List ℕ). LeftSince mixes memory.start.items memory.steps.items 0 f) (sym c.in_ok-left.ensures) (left_in_part mixes memory.start.items memory.steps.items c.args.whole c.args.part)
