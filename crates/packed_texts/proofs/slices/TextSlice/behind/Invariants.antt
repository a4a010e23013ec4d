use Rattle.std.proofs.Common.{◌≡◌, drop}
use Rattle.packed_texts.proofs.slices.TextSlice.behind.Given as goal

abbrev pub invariant-loop-step : goal.invariant-loop-step
invariant-loop-step l = l.rest ≡ drop l._step l.self
