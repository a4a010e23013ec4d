use Rattle.kms_names.proofs.actions.Action.is_like.Given as goal

abbrev pub ghosts-is_like_from : goal.ghosts-is_like_from
ghosts-is_like_from a = record { name = a.blank.name; parts = a.blank.parts }
