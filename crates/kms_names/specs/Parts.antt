-- Parts of texts.
use Rattle.std.specs.Prelude.{◌≢◌, ℕ, List}
use Rattle.std.specs.List.{All}

-- no byte is `:`
abbrev pub HasNoColon : List ℕ → Type 0
HasNoColon text = All (λ c. c ≢ 58) text
