use Rattle.std.proofs.Common.{ℕ, ◌++◌, List, map}
use Rattle.std.specs.List.{range_with_len}
use Rattle.ghash_field.specs.Running.{IsGhash}
use Rattle.gcm_seal.specs.Blocks.{block_at, padded}
use Rattle.gcm_seal.proofs.hash.update_padded.Given as goal

abbrev pub invariant-loop-i : goal.invariant-loop-i
invariant-loop-i l =
    (h : List ℕ) (blocks : List (List ℕ)) → IsGhash l.fn.hash h blocks
    → IsGhash l.hash h (blocks ++ map (block_at (padded l.text)) (range_with_len 0 l.i))
