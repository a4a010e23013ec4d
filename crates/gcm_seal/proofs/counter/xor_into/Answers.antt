use Rattle.std.proofs.Common.{length, take, slice_index, bit_xor, ◌∙◌, ap, sym, arith}
use Rattle.std.proofs.lemmas.List.{get_or-take}
use Rattle.gcm_seal.proofs.GctrFacts.{xor_bytes-filled}
use Rattle.gcm_seal.proofs.counter.xor_into.Goals as goal

pub returns : goal.returns
returns c =
    let text = c.args.text.now in
    let mask = c.args.mask.now in
    xor_bytes-filled text (take (length text) mask) c.loop-i.text c.loop-i.auto.text
    (λ k lt.
    c.loop-i.invariant.0 k (omega arith)
    ∙ ap (bit_xor (slice_index text k)) (sym (get_or-take (length text) mask k 0 lt)))
