use Rattle.persist_map.proofs.places.place_in.Given as goal

abbrev pub ghosts-place_from : goal.ghosts-place_from
ghosts-place_from g a = record { name = a.blank.name; parts = a.blank.parts }
