use Rattle.cond_ops.proofs.read_texts.is_like_read.Given as goal

abbrev pub ghosts-is_like_from : goal.ghosts-is_like_from
ghosts-is_like_from a = record { name = a.blank.name; parts = a.blank.parts }
