use Rattle.std.proofs.Common.{length, ap, arith}
use Rattle.kept_log.specs.Log.{recovered, IsBeforeOrAfter}
use Rattle.kept_log.proofs.Moments.{widened, joined}
use Rattle.kept_log.proofs.Lines.{plain_recovered}
use Rattle.kept_log.proofs.Append.{length_rest}
use Rattle.kept_log.proofs.Batch.{has_gate, stage_is, within_stage, stays, opens, written}
use Rattle.kept_log.proofs.log.put_twice.Goals as goal

pub put-requires-clause-within : goal.put-requires-clause-within
put-requires-clause-within g c =
    let s = c.requires.settled in
    let file = g.D.Device.seen c.args.device.now in
    omega (arith, ap length s.whole, length_rest (recovered file) (plain_recovered file) c.args.tail.end c.args.tail.room s.ends s.some)

pub behind_gate-requires : goal.behind_gate-requires
behind_gate-requires g c = has_gate (g.D.Device.seen c.args.device.now) (g.D.Device.may_leave c.args.device.now) c.args.tail.end c.args.tail.room c.requires.settled c.args.bytes.now c.args.pad c.requires.bytes c.requires.some

pub returns-in_err-put-clause-any_moment : goal.returns-in_err-put-clause-any_moment
returns-in_err-put-clause-any_moment g c =
    let file = g.D.Device.seen c.args.device.now in
    widened g.D.Device.moment g.D.Device.left_since _ _ _ (IsBeforeOrAfter (recovered file) (recovered c.args.bytes.now)) c.put.ensures.any_moment
    (λ f torn. stays file (g.D.Device.may_leave c.args.device.now) c.args.tail.end c.args.tail.room c.requires.settled c.args.bytes.now c.args.pad c.requires.bytes c.requires.some g.D.Device.is_mixing c.behind_gate.result.now f torn)

pub put-requires-2-clause-within : goal.put-requires-2-clause-within
put-requires-2-clause-within g c =
    let file = g.D.Device.seen c.args.device.now in
    let is_staged = stage_is file (g.D.Device.may_leave c.args.device.now) c.args.tail.end c.args.tail.room c.requires.settled c.args.bytes.now c.args.pad c.requires.bytes c.requires.some
    c.behind_gate.result.now (g.D.Device.seen c.put.new.device) c.behind_gate.ensures c.in_ok-put.ensures.written in
    within_stage file (g.D.Device.may_leave c.args.device.now) c.args.tail.end c.args.tail.room c.requires.settled c.args.bytes.now c.args.pad c.requires.bytes c.requires.some (g.D.Device.seen c.put.new.device) is_staged

pub returns-in_err-put-2-clause-any_moment : goal.returns-in_err-put-2-clause-any_moment
returns-in_err-put-2-clause-any_moment g c =
    let file = g.D.Device.seen c.args.device.now in
    let is_staged = stage_is file (g.D.Device.may_leave c.args.device.now) c.args.tail.end c.args.tail.room c.requires.settled c.args.bytes.now c.args.pad c.requires.bytes c.requires.some
    c.behind_gate.result.now (g.D.Device.seen c.put.new.device) c.behind_gate.ensures c.in_ok-put.ensures.written in
    let first = widened g.D.Device.moment g.D.Device.left_since _ _ _ (IsBeforeOrAfter (recovered file) (recovered c.args.bytes.now)) c.put.ensures.any_moment
    (λ f torn. stays file (g.D.Device.may_leave c.args.device.now) c.args.tail.end c.args.tail.room c.requires.settled c.args.bytes.now c.args.pad c.requires.bytes c.requires.some g.D.Device.is_mixing c.behind_gate.result.now f torn) in
    let second = widened g.D.Device.moment g.D.Device.left_since _ _ _ (IsBeforeOrAfter (recovered file) (recovered c.args.bytes.now)) c.put-2.ensures.any_moment
    (λ f torn. opens file (g.D.Device.may_leave c.args.device.now) c.args.tail.end c.args.tail.room c.requires.settled c.args.bytes.now c.args.pad c.requires.bytes c.requires.some g.D.Device.is_mixing (g.D.Device.seen c.put.new.device) f is_staged torn) in
    joined g.D.Device.moment g.D.Device.left_since _ _ _ _ first second

pub returns-clause-any_moment : goal.returns-clause-any_moment
returns-clause-any_moment g c =
    let file = g.D.Device.seen c.args.device.now in
    let is_staged = stage_is file (g.D.Device.may_leave c.args.device.now) c.args.tail.end c.args.tail.room c.requires.settled c.args.bytes.now c.args.pad c.requires.bytes c.requires.some
    c.behind_gate.result.now (g.D.Device.seen c.put.new.device) c.behind_gate.ensures c.in_ok-put.ensures.written in
    let first = widened g.D.Device.moment g.D.Device.left_since _ _ _ (IsBeforeOrAfter (recovered file) (recovered c.args.bytes.now)) c.put.ensures.any_moment
    (λ f torn. stays file (g.D.Device.may_leave c.args.device.now) c.args.tail.end c.args.tail.room c.requires.settled c.args.bytes.now c.args.pad c.requires.bytes c.requires.some g.D.Device.is_mixing c.behind_gate.result.now f torn) in
    let second = widened g.D.Device.moment g.D.Device.left_since _ _ _ (IsBeforeOrAfter (recovered file) (recovered c.args.bytes.now)) c.put-2.ensures.any_moment
    (λ f torn. opens file (g.D.Device.may_leave c.args.device.now) c.args.tail.end c.args.tail.room c.requires.settled c.args.bytes.now c.args.pad c.requires.bytes c.requires.some g.D.Device.is_mixing (g.D.Device.seen c.put.new.device) f is_staged torn) in
    joined g.D.Device.moment g.D.Device.left_since _ _ _ _ first second

pub returns-clause-written : goal.returns-clause-written
returns-clause-written g c =
    let file = g.D.Device.seen c.args.device.now in
    let is_staged = stage_is file (g.D.Device.may_leave c.args.device.now) c.args.tail.end c.args.tail.room c.requires.settled c.args.bytes.now c.args.pad c.requires.bytes c.requires.some
    c.behind_gate.result.now (g.D.Device.seen c.put.new.device) c.behind_gate.ensures c.in_ok-put.ensures.written in
    written file (g.D.Device.may_leave c.args.device.now) c.args.tail.end c.args.tail.room c.requires.settled c.args.bytes.now c.args.pad c.requires.bytes c.requires.some
    (g.D.Device.seen c.put.new.device) (g.D.Device.seen c.put-2.new.device) is_staged c.in_ok-put-2.ensures.written
