-- Entries with their places. No public clause names any of this.
use Rattle.std.specs.Prelude.{◌≡◌, ℕ, suc, List, [], ◌∷◌, map}
use Rattle.account_rows.specs.declared.entries.Entry.{Entry}

-- the entries of pairs of a place and an entry
abbrev pub entries_in : List (ℕ × Entry) → List Entry
entries_in pairs = map (λ (pair : ℕ × Entry). pair.1) pairs

-- the places are a number and those that follow it
abbrev pub AreCounted : ℕ → List (ℕ × Entry) → Type 0
AreCounted place [] = Unit {0}
AreCounted place (pair ∷ pairs) = (pair.0 ≡ place) × AreCounted (suc place) pairs
