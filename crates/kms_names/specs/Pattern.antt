-- Patterns with `*` and `?`, and the shapes that they are kept in.
use Rattle.std.specs.Prelude.{ℕ, List, [], ◌∷◌, ◌++◌, ⊤}
use Rattle.std.specs.List.{AllPass}
use Rattle.kms_names.specs.Glob.{star, is_plain}
use Rattle.kms_names.specs.declared.patterns.Shape.{Shape}
use Rattle.kms_names.specs.declared.patterns.Shape.TheVariants.{Anything, Exact, Prefix, Glob}

-- the pattern's text
abbrev pub pattern_text : Shape → List ℕ
pattern_text Anything = star ∷ []
pattern_text (Exact text) = text
pattern_text (Prefix front) = front ++ star ∷ []
pattern_text (Glob text) = text

-- what is matched as it is has no other characters
abbrev pub HasShape : Shape → Type 0
HasShape Anything = ⊤
HasShape (Exact text) = AllPass is_plain text
HasShape (Prefix front) = AllPass is_plain front
HasShape (Glob text) = ⊤
