use Rattle.std.proofs.Common.{[], ◌∷◌, ◌++◌, ap, ◌∙◌, arith}
use Rattle.std.proofs.lemmas.List.{set-append_right}
use Rattle.gcm_seal.specs.Gcm.{pre_counter_block}
use Rattle.gcm_seal.proofs.hash.pre_counter_block.Goals as goal

pub returns : goal.returns
unfolding pre_counter_block
returns c =
    set-append_right c.copy_from_slice.new.self (0 ∷ 0 ∷ 0 ∷ 0 ∷ []) 12 15 1 c.copy_from_slice.ensures.len (omega arith)
    ∙ ap (λ iv. iv ++ 0 ∷ 0 ∷ 0 ∷ 1 ∷ []) c.copy_from_slice.ensures.after
