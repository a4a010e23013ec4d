use Rattle.policy_eval.proofs.elements.some_matches.Given as goal

abbrev pub ghosts-some_matches_from : goal.ghosts-some_matches_from
ghosts-some_matches_from a = record { name = a.blank.name; parts = a.blank.parts }
