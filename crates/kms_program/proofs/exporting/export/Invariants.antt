use Rattle.kms_program.proofs.exporting.export.Given as goal

-- the link, as it is now
abbrev pub ghosts-export_over : goal.ghosts-export_over
ghosts-export_over g a = record { name = a.link.ghost_name; first = g.L.Link.shows a.link.now }
