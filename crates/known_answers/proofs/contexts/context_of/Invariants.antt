use Rattle.enc_context.specs.Pairs.{HasDistinctKeys}
use Rattle.known_answers.proofs.contexts.context_of.Given as goal

abbrev pub invariant-loop-pair : goal.invariant-loop-pair
invariant-loop-pair l = HasDistinctKeys l.pairs.items
