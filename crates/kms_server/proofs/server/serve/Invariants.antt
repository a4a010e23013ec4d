use Rattle.kms_server.proofs.server.serve.Given as goal

-- the opening that was just made
abbrev pub ghosts-serve_realm-R-Realm : goal.ghosts-serve_realm-R-Realm
ghosts-serve_realm-R-Realm g a = record { book = a.opening.shown.book; facts = a.opening.shown.whole.facts; passes = a.opening.shown.whole.passes; loaded = a.opening.shown.whole.loaded; started = g.K.Keeps.moment a.keeper }

abbrev pub ghosts-serve_realm-R-Ledger : goal.ghosts-serve_realm-R-Ledger
ghosts-serve_realm-R-Ledger g a = record { name = a.opening.name; parts = a.opening.parts }
