-- What callers use of a GHASH: its length. What the calls use: the hash of no blocks, and of one block
-- more.
use Rattle.std.proofs.Common.{◌≡◌, ℕ, List, [], ◌∷◌, ◌++◌, length, refl}
use Rattle.std.specs.Prelude.{bit_xor}
use Rattle.std.proofs.lemmas.List.Sums.{fold_push}
use Rattle.ghash_field.specs.Ghash.{block_of, ghash, hash_number, number_of, product}

-- a GHASH has 16 bytes
pub ghash_length : (key : List ℕ) (blocks : List (List ℕ)) → length (ghash key blocks) ≡ 16
unfolding ghash block_of
ghash_length key blocks = refl

-- Y_0 is 0
pub hash_number_none : (key : List ℕ) → hash_number key [] ≡ 0
unfolding hash_number
hash_number_none key = refl

-- Y_{m+1} from Y_m and one more block
pub hash_number_more : (key : List ℕ) (blocks : List (List ℕ)) (block : List ℕ)
    → hash_number key (blocks ++ block ∷ [])
    ≡ product (bit_xor (hash_number key blocks) (number_of block)) (number_of key)
unfolding hash_number
hash_number_more key blocks block =
    fold_push (λ sum (b : List ℕ). product (bit_xor sum (number_of b)) (number_of key)) 0 blocks block
