-- The rounds, one after another.
use Rattle.std.proofs.Common.{◌≡◌, ℕ, List, refl}
use Rattle.aes_block.specs.State.{sub_bytes, shift_rows, add_round_key}
use Rattle.aes_block.specs.Schedule.{key_expansion}
use Rattle.aes_block.specs.Cipher.{round, after_rounds, cipher_with, cipher}

-- what four rounds from round n on make of a state
abbrev pub IsFourRounds : List (List ℕ) → List ℕ → ℕ → ℕ → ℕ → ℕ → List ℕ → Type 0
IsFourRounds w s n0 n1 n2 n3 t = t ≡ round w (round w (round w (round w s n0) n1) n2) n3

pub cipher_made : (w : List (List ℕ)) (key block s0 s4 s8 s12 s13 result : List ℕ) → w ≡ key_expansion key
    → s0 ≡ add_round_key block w 0 → IsFourRounds w s0 1 2 3 4 s4 → IsFourRounds w s4 5 6 7 8 s8 → IsFourRounds w s8 9 10 11 12 s12
    → s13 ≡ round w s12 13 → result ≡ add_round_key (shift_rows (sub_bytes s13)) w 14 → result ≡ cipher key block
unfolding cipher cipher_with after_rounds
cipher_made w key block s0 s4 s8 s12 s13 result ew e0 e4 e8 e12 e13 e = rw (e, e13, e12, e8, e4, e0, ew) refl
