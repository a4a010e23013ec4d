-- A `split_once` at an ASCII character, by bytes.
use Rattle.std.proofs.Common.{◌≡◌, ◌≢◌, ℕ, ◌<◌, ◌∷◌, ◌++◌, List, length, get_or, lit<, Some, None, All}
use Rattle.std.specs.Prelude.{MatchOption}
use Rattle.std.proofs.lemmas.List.Elements.{All-from_get_or}
use Rattle.std.proofs.lemmas.Str.Pattern.{split_parts}
use Rattle.authority.proofs.facts.at_slash.Goals as goal

by_places : (s : List ℕ) → ((i : ℕ) → i < length s → get_or s i 0 ≢ 47) → All (λ c. c ≢ 47) s
by_places s none = All-from_get_or (λ c. c ≢ 47) s 0 none

pub returns : goal.returns
returns c =
    let bytes : List ℕ = c.args.text.now in
    elim c.split_once.result as (λ r.
    MatchOption r ((i : ℕ) → i < length bytes → get_or bytes i 0 ≢ 47) (λ x. (bytes ≡ x.0.now ++ 47 ∷ x.1.now) × ((i : ℕ) → i < length x.0.now → get_or x.0.now i 0 ≢ 47))
    → MatchOption r (All (λ c. c ≢ 47) bytes) (λ parts. All (λ c. c ≢ 47) parts.0.now × (bytes ≡ parts.0.now ++ 47 ∷ parts.1.now))) [
      | None ↦ λ none. by_places bytes none
      | Some x ↦ λ parts. (by_places x.0.now parts.1, parts.0)
    ] (split_parts 47 bytes c.split_once.result c.split_once.ensures.cases (lit< tt))
