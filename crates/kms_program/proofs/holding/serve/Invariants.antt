use Rattle.kms_program.proofs.holding.serve.Given as goal

-- the opening that was just made
abbrev pub ghosts-serve_once-R-Realm : goal.ghosts-serve_once-R-Realm
ghosts-serve_once-R-Realm g a = record { book = a.opening.shown.book; facts = a.opening.shown.whole.facts; passes = a.opening.shown.whole.passes; loaded = a.opening.shown.whole.loaded; started = 0 }

abbrev pub ghosts-serve_once-R-Ledger : goal.ghosts-serve_once-R-Ledger
ghosts-serve_once-R-Ledger g a = record { name = a.opening.name; parts = a.opening.parts }
