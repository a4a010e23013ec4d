-- What a clock of listed answers tells.
use Rattle.std.specs.Prelude.{ℕ, ◌+◌, List, Option}
use Rattle.kms_io.specs.Clock.{listed, told_so_far}
use Rattle.kms_io.specs.declared.memory_clock.MemoryClock.{MemoryClock}

abbrev pub answers_so_far : MemoryClock → Option (List ℕ)
answers_so_far clock = told_so_far (listed clock.answers.items) clock.calls

-- its answer to the k-th call from now on
abbrev pub answer_after : MemoryClock → ℕ → ℕ
answer_after clock k = listed clock.answers.items (clock.calls + k)
