-- The binary digits of a number.
use Rattle.std.specs.Prelude.{ℕ, length}
use Rattle.std.specs.Int.Digits.{digits_of}

-- how many binary digits a number has, where 0 has none
unfoldable pub binary_digits : ℕ → ℕ
binary_digits n = length (digits_of 2 n)
