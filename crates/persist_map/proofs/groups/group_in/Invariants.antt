use Rattle.persist_map.proofs.groups.group_in.Given as goal

abbrev pub ghosts-group_from : goal.ghosts-group_from
ghosts-group_from g a = record { name = a.blank.name; parts = a.blank.parts }
