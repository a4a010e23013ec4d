-- The first of several clocks.
use Rattle.std.proofs.Common.{◌≡◌, ◌<◌, ℕ, List, [], ◌∷◌, Option, length, map, drop, get_or, slice_set, refl, arith, subst}
use Rattle.kms_program.specs.Program.{first_of}

-- what holds of what a clock tells and then tells holds of the first of those among which it stands first
pub in_first_place : {C : Type 0} (told : C → Option (List ℕ)) (clocks : List C) (old new : C) (Holds : Option (List ℕ) → Option (List ℕ) → Type 0)
    → 0 < length clocks → old ≡ get_or clocks 0 old → Holds (told old) (told new) → Holds (first_of (map told clocks)) (first_of (map told (slice_set clocks 0 new)))
in_first_place told [] old new Holds some is holds = absurd (omega arith)
in_first_place {C} told (c ∷ cs) old new Holds some is holds = subst (λ (clock : C). Holds (told clock) (told new)) is holds

-- the others tell what they did
pub others_rest : {C : Type 0} (told : C → Option (List ℕ)) (clocks : List C) (new : C) → drop 1 (map told (slice_set clocks 0 new)) ≡ drop 1 (map told clocks)
others_rest told [] new = refl
others_rest told (c ∷ cs) new = refl
