use Rattle.known_answers.proofs.maps.counted.Given as goal

abbrev pub ghosts-counted_from : goal.ghosts-counted_from
ghosts-counted_from g a = record { name = a.blank.name; parts = a.blank.parts }
