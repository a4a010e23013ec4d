-- Tables of products with a hash subkey.
use Rattle.std.specs.Prelude.{◌≡◌, ℕ, ◌*◌, ◌^◌, ◌<◌, List, slice_index}
use Rattle.ghash_field.specs.Ghash.{product}

-- the entry at each place i below 16 is the product of i, with n zeros after it, and the hash subkey
abbrev pub HasProducts : List ℕ → ℕ → ℕ → Type 0
HasProducts table key n = (i : ℕ) → i < 16 → slice_index table i ≡ product (i * 2 ^ n) key
