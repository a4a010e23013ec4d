-- What a pass has used of its random stream and of its initialization vectors.
use Rattle.std.specs.Prelude.{◌≡◌, ℕ, ◌≤◌}
use Rattle.draw_lines.specs.Line.{Line}
use Rattle.account_steps.specs.declared.facts.RealmFacts.{RealmFacts}
pub use Rattle.account_steps.specs.declared.places.Places.{Places}
use Rattle.account_steps.specs.declared.places.Uses.{Uses}
use Rattle.account_steps.specs.Ids.{draw_seed}

-- nothing of the pass
abbrev pub nothing_used : Uses
nothing_used = record { words = 0; ivs = 0 }

-- the first pass, which has used nothing
abbrev pub no_places : Places
no_places = record { number = 1; words = 0; ivs = 0 }

-- where a line of draws stands
abbrev pub places_of : Line → Places
places_of line = record { number = line.pass_number; words = line.words; ivs = line.ivs }

-- the line at these places
abbrev pub line_at : Line → Places → Line
line_at line places = record { seed = line.seed; boot = line.boot; pass_number = line.pass_number; words = places.words; ivs = places.ivs }

-- a line of this boot, with the seed of its pass
pub record IsLineOf (facts : RealmFacts) (line : Line) : Type 0 where
  pub boot : line.boot ≡ facts.boot
  pub seed : line.seed ≡ draw_seed facts line.pass_number

-- the line of a pass that has drawn nothing
abbrev pub first_line : RealmFacts → ℕ → Line
first_line facts number = record { seed = draw_seed facts number; boot = facts.boot; pass_number = number; words = 0; ivs = 0 }

-- some places, of the same pass, from the first to the last of two
pub record IsUpTo (old new after : Places) : Type 0 where
  pub number : new.number ≡ old.number
  pub words_from : old.words ≤ new.words
  pub words_to : new.words ≤ after.words
  pub ivs_from : old.ivs ≤ new.ivs
  pub ivs_to : new.ivs ≤ after.ivs

-- the line has gone on from where it stood, at most to these places
pub record IsWithin (old new : Line) (after : Places) : Type 0 where
  pub seed : new.seed ≡ old.seed
  pub boot : new.boot ≡ old.boot
  pub up_to : IsUpTo (places_of old) (places_of new) after
