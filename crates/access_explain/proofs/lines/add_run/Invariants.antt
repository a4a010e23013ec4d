use Rattle.std.proofs.Common.{◌≡◌, ◌++◌, take}
use Rattle.std.specs.Prelude.{string_bytes}
use Rattle.access_explain.specs.Lines.{letters}
use Rattle.access_explain.proofs.lines.add_run.Given as goal

abbrev pub invariant-loop-mark : goal.invariant-loop-mark
invariant-loop-mark l = string_bytes l.text ≡ string_bytes l.initial.text ++ letters (take l.mark-index l.marks)
