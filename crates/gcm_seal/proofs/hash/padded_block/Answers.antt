use Rattle.std.proofs.Common.{◌∙◌, ℕ, List, ◌-◌, ◌*◌, ◌++◌, take, drop, replicate, length, ap, arith, ◌≡◌, length-drop}
use Rattle.std.proofs.lemmas.List.{length-take}
use Rattle.gcm_seal.proofs.BlockFacts.{block_at-padded}
use Rattle.gcm_seal.proofs.hash.padded_block.Goals as goal

pub returns : goal.returns
returns c =
    let text = c.args.text.now in
    let start : ℕ = 16 * c.args.i in
    let size : ℕ = length text - start in
    let rest : List ℕ = take size (drop start text) in
    let long : length rest ≡ size = length-take size (drop start text) ∙ omega (arith, length-drop start text) in
    ap (λ b. b ++ drop (length rest) (replicate 16 0)) c.copy_from_slice.ensures.after
    ∙ ap (λ n. rest ++ drop n (replicate 16 0)) long
    ∙ block_at-padded text c.args.i size (omega arith) (omega arith)
