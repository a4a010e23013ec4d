use Rattle.std.proofs.Common.{ℕ, ◌-◌, ◌<◌, List, ◌++◌, true, length, sym, ◌∙◌, ap, subst, arith}
use Rattle.kept_log.specs.Device.{Torn, overlaid}
use Rattle.kept_log.specs.Log.{lines, recovered, at_rest, IsBeforeOrAfter}
use Rattle.kept_log.proofs.Moments.{widened}
use Rattle.kept_log.proofs.Lines.{plain_recovered}
use Rattle.kept_log.proofs.Append.{length_rest, torn_record, written_once}
use Rattle.kept_log.proofs.log.put_once.Goals as goal

pub put-requires-clause-within : goal.put-requires-clause-within
put-requires-clause-within g c =
    let s = c.requires.settled in
    let file = g.D.Device.seen c.args.device.now in
    omega (arith, ap length s.whole, length_rest (recovered file) (plain_recovered file) c.args.tail.end c.args.tail.room s.ends s.some)

pub returns-in_err-put-clause-any_moment : goal.returns-in_err-put-clause-any_moment
returns-in_err-put-clause-any_moment g c =
    let s = c.requires.settled in
    let file = g.D.Device.seen c.args.device.now in
    let batch = recovered c.args.bytes.now in
    let fits : length (lines batch) < c.args.tail.room = omega (arith, c.requires.fits, ap length c.requires.bytes) in
    widened g.D.Device.moment g.D.Device.left_since _ _ _ (IsBeforeOrAfter (recovered file) batch) c.put.ensures.any_moment
    (λ f torn. torn_record (recovered file) (plain_recovered file) c.args.tail.end c.args.tail.room s.ends s.some batch (plain_recovered c.args.bytes.now) c.requires.one fits f
    (subst (λ d. Torn true c.args.tail.end (lines batch) d f) s.whole (subst (λ b. Torn true c.args.tail.end b file f) c.requires.bytes (subst (λ m. Torn m c.args.tail.end c.args.bytes.now file f) c.requires.mixes torn))))

pub returns-clause-any_moment : goal.returns-clause-any_moment
returns-clause-any_moment g c =
    let s = c.requires.settled in
    let file = g.D.Device.seen c.args.device.now in
    let batch = recovered c.args.bytes.now in
    let fits : length (lines batch) < c.args.tail.room = omega (arith, c.requires.fits, ap length c.requires.bytes) in
    widened g.D.Device.moment g.D.Device.left_since _ _ _ (IsBeforeOrAfter (recovered file) batch) c.put.ensures.any_moment
    (λ f torn. torn_record (recovered file) (plain_recovered file) c.args.tail.end c.args.tail.room s.ends s.some batch (plain_recovered c.args.bytes.now) c.requires.one fits f
    (subst (λ d. Torn true c.args.tail.end (lines batch) d f) s.whole (subst (λ b. Torn true c.args.tail.end b file f) c.requires.bytes (subst (λ m. Torn m c.args.tail.end c.args.bytes.now file f) c.requires.mixes torn))))

pub returns-clause-written : goal.returns-clause-written
returns-clause-written g c =
    let s = c.requires.settled in
    let file = g.D.Device.seen c.args.device.now in
    let batch = recovered c.args.bytes.now in
    c.in_ok-put.ensures.written ∙ ap (λ (f : List ℕ). overlaid f c.args.tail.end c.args.bytes.now) s.whole
    ∙ ap (λ (b : List ℕ). overlaid (at_rest (recovered file) c.args.tail.room) c.args.tail.end b) c.requires.bytes
    ∙ written_once (recovered file) (plain_recovered file) c.args.tail.end c.args.tail.room s.ends s.some batch (omega (arith, c.requires.fits, ap length c.requires.bytes))
    ∙ ap (λ (n : ℕ). at_rest (recovered file ++ batch) (c.args.tail.room - n)) (sym (ap length c.requires.bytes))
