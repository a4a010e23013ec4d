-- Numbers among the words.
use Rattle.std.specs.Prelude.{◌&&◌, ℕ, nat_le, List, Option, Some, None, option_and_then}
use Rattle.kms_names.specs.Digits.{number_in}
use Rattle.kms_names.specs.Reading.{some_if}

-- a number of 1 to 20 decimal digits, within these bounds
abbrev pub number_within : ℕ → ℕ → List ℕ → Option ℕ
number_within least most text = option_and_then (λ number. some_if (nat_le least number && nat_le number most) number) (number_in 20 text)

-- the same where it is given, and else the usual one
abbrev pub number_or : ℕ → ℕ → ℕ → Option (List ℕ) → Option ℕ
number_or usual least most None = Some usual
number_or usual least most (Some text) = number_within least most text
