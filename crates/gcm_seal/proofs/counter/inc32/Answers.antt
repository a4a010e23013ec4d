use Rattle.std.proofs.Common.{◌+◌, ◌%◌, ◌^◌, ℕ, ap, ◌∙◌}
use Rattle.std.specs.Int.{w32, to_be_bytes}
use Rattle.gcm_seal.proofs.GctrFacts.{inc32-written}
use Rattle.gcm_seal.proofs.counter.inc32.Goals as goal

pub returns : goal.returns
returns c =
    inc32-written c.args.block.now c.copy_from_slice.new.self c.told-block
    (c.copy_from_slice.ensures.after ∙ c.to_be_bytes.ensures ∙ ap (λ (n : ℕ). to_be_bytes w32 ((n + 1) % 2 ^ 32)) c.from_be_bytes-count.ensures)
