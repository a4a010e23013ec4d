-- What a contract sees of a `Ghash`: its hash subkey and the blocks so far.
use Rattle.std.specs.Prelude.{◌≡◌, ℕ, List}
use Rattle.ghash_field.specs.Ghash.{hash_number, number_of}
use Rattle.ghash_field.specs.declared.Ghash.{Ghash}

-- the hash was made with this hash subkey, and was given these blocks, in this order
unfoldable pub IsGhash : Ghash → List ℕ → List (List ℕ) → Type 0
IsGhash hash key blocks = (hash.key ≡ number_of key) × (hash.sum ≡ hash_number key blocks)
