use Rattle.cond_ops.specs.Asked.{condition_of}
use Rattle.cond_ops.proofs.MatchingFacts.{LookedUp}
use Rattle.cond_ops.proofs.asked.Asked.look_up.Given as goal

-- no fact so far has such a value, and the key is present where some fact so far has its name
abbrev pub invariant-loop-fact : goal.invariant-loop-fact
invariant-loop-fact l = LookedUp (condition_of l.self) l.wanted l.facts l.fact-index l.is_present
