use Rattle.std.proofs.Common.{◌≡◌, drop}
use Rattle.journal_lines.specs.Contexts.{ascend_behind}
use Rattle.journal_lines.proofs.contexts.ascend.Given as goal

abbrev pub invariant-loop-pair : goal.invariant-loop-pair
invariant-loop-pair l = ascend_behind l.last (drop l.pair-index l.others) ≡ ascend_behind l.initial.last l.others
