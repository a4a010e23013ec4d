use Rattle.access_explain.proofs.statements.globs.Given as goal

abbrev pub ghosts-globs_from : goal.ghosts-globs_from
ghosts-globs_from a = record { name = a.blank.name; parts = a.blank.parts }
