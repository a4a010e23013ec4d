use Rattle.std.proofs.Common.{◌≡◌, map, take}
use Rattle.access_explain.specs.declared.runs.Marked.{Marked}
use Rattle.access_explain.proofs.runs.Run.marks.Given as goal

abbrev pub invariant-loop-marked : goal.invariant-loop-marked
invariant-loop-marked l = l.marks.items ≡ map (λ (m : Marked). m.mark) (take l.marked-index l.marked-items)
