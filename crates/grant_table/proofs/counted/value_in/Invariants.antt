use Rattle.grant_table.proofs.counted.value_in.Given as goal

abbrev pub ghosts-value_from : goal.ghosts-value_from
ghosts-value_from g a = record { name = a.blank.name; parts = a.blank.parts }
