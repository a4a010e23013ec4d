use Rattle.std.proofs.Common.{◌++◌, length, take, sym, ap, ◌∙◌, append_assoc, append-nil, arith, length-append, List, ℕ}
use Rattle.std.proofs.lemmas.Bool.{false≢true}
use Rattle.enc_context.specs.Encoding.{encoding_of, pair_encoding}
use Rattle.enc_context.proofs.EncodingFacts.{encoding_of_none, part_of, more_of}
use Rattle.enc_context.specs.declared.pairs.Pair.{Pair}
use Rattle.enc_context.proofs.contexts.Context.encode_into.Goals as goal

pub loop-pair-init : goal.loop-pair-init
loop-pair-init c =
    let size = ap (λ (pairs : List Pair). length (encoding_of pairs)) c.deref-pair-items.ensures.value in (
      rw encoding_of_none (sym (append-nil c.reserve.new.self.items)),
      omega (arith, size, c.self.invariant.1, c.in_ok-reserve.ensures.ok),
    )

pub append_pair-requires : goal.append_pair-requires
append_pair-requires c =
    let part = part_of c.deref-pair-items.result.now c.loop-pair.pair-index c.pair-item.result c.loop-pair-test.true c.pair-item.is in
    let size = ap (λ (pairs : List Pair). length (encoding_of pairs)) c.deref-pair-items.ensures.value in
    omega (arith, part, size, c.self.invariant.0.fits)

pub returns-in_err-append_pair-clause-kept : goal.returns-in_err-append_pair-clause-kept
returns-in_err-append_pair-clause-kept c =
    let part = part_of c.deref-pair-items.result.now c.loop-pair.pair-index c.pair-item.result c.loop-pair-test.true c.pair-item.is in
    let written =
    ap length c.loop-pair.invariant.0
    ∙ length-append c.reserve.new.self.items (encoding_of (take c.loop-pair.pair-index c.deref-pair-items.result.now)) in
    absurd (false≢true (c.in_err-append_pair.ensures.room (omega (arith, part, written, c.loop-pair.invariant.1, c.loop-pair.out.ok, c.reserve.new.self.ok))))

pub loop-pair-preserved : goal.loop-pair-preserved
loop-pair-preserved c =
    let more = more_of c.deref-pair-items.result.now c.loop-pair.pair-index c.pair-item.result c.loop-pair-test.true c.pair-item.is in
    let done = encoding_of (take c.loop-pair.pair-index c.deref-pair-items.result.now) in (
      c.in_ok-append_pair.ensures.written
          ∙ ap (λ (bytes : List ℕ). bytes ++ pair_encoding c.pair-item.result) c.loop-pair.invariant.0
          ∙ append_assoc c.reserve.new.self.items done (pair_encoding c.pair-item.result)
          ∙ ap (λ (rest : List ℕ). c.reserve.new.self.items ++ rest) (sym more),
      omega (arith, c.loop-pair.invariant.1, c.in_ok-append_pair.ensures.capacity),
    )
