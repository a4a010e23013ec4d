use Rattle.std.proofs.Common.{ℕ, List, ◌*◌, ◌++◌, replicate, refl, length, ap, ◌∙◌}
use Rattle.std.specs.Int.{w64, to_be_bytes}
use Rattle.gcm_seal.specs.Gcm.{lengths_block}
use Rattle.gcm_seal.proofs.TagFacts.{halves_written}
use Rattle.gcm_seal.proofs.hash.lengths_block.Goals as goal

pub returns : goal.returns
unfolding lengths_block
returns c =
    let first : List ℕ = c.copy_from_slice.new.self in
    halves_written first c.copy_from_slice-2.new.self (replicate 8 0) c.copy_from_slice.ensures.len refl
    ∙ ap (λ f. f ++ c.copy_from_slice-2.new.self) (c.copy_from_slice.ensures.after ∙ c.to_be_bytes.ensures)
    ∙ ap (λ s. to_be_bytes w64 (8 * length c.args.aad.now) ++ s) (c.copy_from_slice-2.ensures.after ∙ c.to_be_bytes-2.ensures)
