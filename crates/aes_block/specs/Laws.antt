-- What pins the inverse.
use Rattle.std.specs.Prelude.{◌≡◌, ℕ, ◌<◌}
use Rattle.aes_block.specs.Field.{product, inverse}

-- the inverse of a byte other than 0 is the only byte whose product with it is 1
abbrev pub InverseIsPinned : ℕ → Type 0
InverseIsPinned x =
    (inverse x < 256) × (product x (inverse x) ≡ 1)
    × ((y : ℕ) → y < 256 → product x y ≡ 1 → y ≡ inverse x)
