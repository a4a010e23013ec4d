use Rattle.std.proofs.Common.{ap, ◌∙◌, List, ℕ}
use Rattle.aes_block.specs.Schedule.{key_expansion}
use Rattle.aes_block.proofs.CipherSteps.{cipher_made}
use Rattle.aes_block.proofs.key.AesKey.encrypt.Goals as goal

pub returns : goal.returns
returns c =
    cipher_made _ c.args.self.now c.args.block _ _ _ _ _ _ (c.self.invariant ∙ ap (λ (k : List ℕ). key_expansion k) c.self.view_is)
    c.first_state-start.ensures c.four_rounds-after_four.ensures c.four_rounds-after_eight.ensures c.four_rounds-after_twelve.ensures
    c.round-after_thirteen.ensures c.last_block.ensures
