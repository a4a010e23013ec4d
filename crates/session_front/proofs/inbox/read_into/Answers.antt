use Rattle.std.proofs.Common.{◌≤◌, length, take, drop, length-take, ap, ◌∙◌, arith}
use Rattle.session_front.proofs.Wires.{take_into, behind}
use Rattle.session_front.proofs.inbox.read_into.Goals as goal

pub returns-in-Got-clause-fills : goal.returns-in-Got-clause-fills
returns-in-Got-clause-fills g c =
    let at = c.args.filled.now in
    let n = c.in-Got.count in
    let room = c.read_some-took.new.room in
    let start = c.args.start in
    let before = take at c.args.bytes.now in
    let fits : n ≤ length room = c.in-Got.ensures.1 in
    let grows = take_into at n c.args.bytes.now room _ (omega arith) fits in
    let within : start ≤ length before = omega (arith, length-take at c.args.bytes.now) in
    record {
      piece = take n room;
      size = omega (arith, length-take n room);
      some = c.in-Got.ensures.0;
      takes = c.in-Got.ensures.2;
      grows = ap (drop start) grows ∙ behind start before (take n room) within;
      moves = c.in-Got.ensures.3;
    }
