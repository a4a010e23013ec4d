use Rattle.kms_io.specs.MemoryLink.{wire_of}
use Rattle.io_cases.proofs.memory.show_quiet.Given as goal

-- which connection it is, and what it shows before
abbrev pub ghosts-say_quiet : goal.ghosts-say_quiet
ghosts-say_quiet a = record { name = a.link.ghost_name; first = wire_of a.link.now }
