use Rattle.std.proofs.Common.{◌≤◌, length, take, sym, ap, arith, length-append}
use Rattle.enc_context.specs.Encoding.{encoding_of, text_encoding, pair_encoding}
use Rattle.enc_context.proofs.EncodingFacts.{encoding_of_none, part_of, more_of}
use Rattle.enc_context.specs.declared.encoding.TheConstants.{LIMIT}
use Rattle.enc_context.proofs.encoding.size_within_limit.Goals as goal

pub loop-pair-init : goal.loop-pair-init
loop-pair-init c = (sym (ap length encoding_of_none), omega arith)

pub returns-in_err-size : goal.returns-in_err-size
returns-in_err-size c =
    let pair = c.pair-item.result in
    let part = part_of c.args.pairs.now c.loop-pair.pair-index pair c.loop-pair-test.true c.pair-item.is in
    let parts = length-append (text_encoding pair.key) (text_encoding pair.value) in
    rw c.from_residual.ensures
    (λ (fits : length (encoding_of c.args.pairs.now) ≤ LIMIT). c.in_err-size.ensures (omega (arith, part, parts, c.loop-pair.invariant)))

pub returns-in_err-size-2 : goal.returns-in_err-size-2
returns-in_err-size-2 c =
    let pair = c.pair-item.result in
    let part = part_of c.args.pairs.now c.loop-pair.pair-index pair c.loop-pair-test.true c.pair-item.is in
    let parts = length-append (text_encoding pair.key) (text_encoding pair.value) in
    rw c.from_residual-in_err-size-2.ensures
    (λ (fits : length (encoding_of c.args.pairs.now) ≤ LIMIT). c.in_err-size-2.ensures (omega (arith, part, parts, c.in_ok-size.ensures, c.loop-pair.invariant)))

pub loop-pair-preserved : goal.loop-pair-preserved
loop-pair-preserved c =
    let pair = c.pair-item.result in
    let more = ap length (more_of c.args.pairs.now c.loop-pair.pair-index pair c.loop-pair-test.true c.pair-item.is) in
    let whole = length-append (encoding_of (take c.loop-pair.pair-index c.args.pairs.now)) (pair_encoding pair) in
    let parts = length-append (text_encoding pair.key) (text_encoding pair.value) in (
      omega (arith, more, whole, parts, c.in_ok-size.ensures, c.in_ok-size-2.ensures, c.loop-pair.invariant),
      omega (arith, c.in_ok-size-2.ensures),
    )
