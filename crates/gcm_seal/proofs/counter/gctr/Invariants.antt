use Rattle.std.proofs.Common.{◌≡◌, ◌*◌, ◌++◌, drop}
use Rattle.gcm_seal.specs.Counter.{counter_block}
use Rattle.gcm_seal.proofs.GctrFacts.{front_output}
use Rattle.gcm_seal.proofs.counter.gctr.Given as goal

abbrev pub invariant-loop-i : goal.invariant-loop-i
invariant-loop-i l =
    (l.counter ≡ counter_block l.fn.initial l.i)
    × (l.text ≡ front_output l.key l.fn.initial l.fn.text l.i ++ drop (16 * l.i) l.fn.text)
