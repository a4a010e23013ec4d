use Rattle.pass_cases.proofs.hold_part.Given as goal

-- the opening that was just made
abbrev pub ghosts-hold-R-Realm : goal.ghosts-hold-R-Realm
ghosts-hold-R-Realm g a = record { book = a.opening.shown.book; facts = a.opening.shown.whole.facts; passes = a.opening.shown.whole.passes; loaded = a.opening.shown.whole.loaded; started = 0 }

abbrev pub ghosts-hold-R-Ledger : goal.ghosts-hold-R-Ledger
ghosts-hold-R-Ledger g a = record { name = a.opening.name; parts = a.opening.parts }
