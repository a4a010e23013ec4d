-- Compared exactly, a text's characters are themselves.
use Rattle.std.proofs.Common.{◌≡◌, ℕ, List, [], ◌∷◌, map, refl, ap}
use Rattle.kms_names.proofs.globs.glob.Goals as goal

map_itself : (xs : List ℕ) → map (λ c. c) xs ≡ xs
map_itself [] = refl
map_itself (x ∷ xs) = ap (λ ys. x ∷ ys) (map_itself xs)

pub returns-clause-value : goal.returns-clause-value
returns-clause-value g c = simp map_itself at c.is_match.ensures.value
