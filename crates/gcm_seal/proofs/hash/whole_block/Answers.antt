use Rattle.std.proofs.Common.{◌∙◌, ℕ, ◌+◌, ◌-◌, ◌*◌, take, drop, sym, ap, arith, ◌≡◌}
use Rattle.std.proofs.lemmas.List.{append-nil}
use Rattle.gcm_seal.proofs.BlockFacts.{block_at-padded}
use Rattle.gcm_seal.proofs.hash.whole_block.Goals as goal

pub returns : goal.returns
returns c =
    let start : ℕ = 16 * c.args.i in
    let whole : start + 16 - start ≡ 16 = omega arith in
    c.copy_from_slice.ensures.after
    ∙ ap (λ n. take n (drop start c.args.text.now)) whole
    ∙ sym (append-nil (take 16 (drop start c.args.text.now)))
    ∙ block_at-padded c.args.text.now c.args.i 16 (omega arith) (omega arith)
