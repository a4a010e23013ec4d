-- How a match goes on from what is left of the pattern and of the text.
use Rattle.std.specs.Prelude.{◌≡◌, ◌≢◌, ◌⊎◌, ℕ, List, [], ◌∷◌, map, Option, None, Some, MatchOption}
use Rattle.std.specs.Char.{to_ascii_lowercase}
use Rattle.std.specs.Str.{chars}
use Rattle.kms_names.specs.Glob.{Globs, star, question_mark}
use Rattle.kms_names.specs.declared.globs.Case.{Case}
use Rattle.kms_names.specs.declared.globs.Case.TheVariants.{Exact, AsciiIgnored}
use Rattle.kms_names.specs.declared.globs.Place.{Place}
use Rattle.kms_names.specs.declared.globs.Move.{Move}
use Rattle.kms_names.specs.declared.globs.Move.TheVariants.{Done, Star, Advance, Stuck}

-- a character as it is compared
abbrev pub folded : Case → ℕ → ℕ
folded Exact c = c
folded AsciiIgnored c = to_ascii_lowercase c

-- the characters of a text as they are compared
abbrev pub letters : Case → List ℕ → List ℕ
letters by text = map (folded by) (chars text)

-- a place goes to another by a move
abbrev pub Moves : Case → Place → Move → Type 0
Moves by place Done = Globs (letters by place.pattern.now) (letters by place.text.now)
Moves by place (Star next) = (letters by place.pattern.now ≡ star ∷ letters by next.pattern.now) × (letters by next.text.now ≡ letters by place.text.now)
Moves by place (Advance next) =
    (c : ℕ) × (d : ℕ) × (c ≢ star) × ((c ≡ question_mark) ⊎ (c ≡ d)) × (letters by place.pattern.now ≡ c ∷ letters by next.pattern.now) × (letters by place.text.now ≡ d ∷ letters by next.text.now)
Moves by place Stuck = ¬ (Globs (letters by place.pattern.now) (letters by place.text.now))

-- the pattern behind the last `*` starts again one character later, where there is one
abbrev pub GoesLater : Case → Option Place → Option Place → Type 0
GoesLater by None result = result ≡ None
GoesLater by (Some last) result =
    MatchOption result (letters by last.text.now ≡ []) (λ next. (next.pattern.now ≡ last.pattern.now) × ((c : ℕ) × (letters by last.text.now ≡ c ∷ letters by next.text.now)))
