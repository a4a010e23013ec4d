use Rattle.std.proofs.Common.{sym, ap, ◌∙◌, List, ℕ}
use Rattle.aes_block.specs.Schedule.{key_expansion}
use Rattle.aes_block.proofs.Expanding.{expanded-key}
use Rattle.aes_block.proofs.key.AesKey.new.Goals as goal

pub invariant_of-result : goal.invariant_of-result
invariant_of-result c =
    let made = c.packed.ensures ∙ c.key_expansion.ensures in
    made ∙ ap (λ (k : List ℕ). key_expansion k) (sym (expanded-key c.args.key.now _ c.told-key made))

pub returns : goal.returns
returns c = expanded-key c.args.key.now _ c.told-key (c.packed.ensures ∙ c.key_expansion.ensures)
