use Rattle.cond_ops.proofs.colons.+has_colons.Given as goal

abbrev pub decreases-has_colons : goal.decreases-has_colons
decreases-has_colons l = l.colons
