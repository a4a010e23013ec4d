use Rattle.known_answers.proofs.globs.like_nocase.Given as goal

abbrev pub ghosts-like_nocase_from : goal.ghosts-like_nocase_from
ghosts-like_nocase_from a = record { name = a.blank.name; parts = a.blank.parts }
