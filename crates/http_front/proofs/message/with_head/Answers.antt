use Rattle.std.proofs.Common.{sym}
use Rattle.http_front.specs.Message.{at_fault}
use Rattle.http_front.proofs.Heads.{shows_head}
use Rattle.http_front.proofs.Answering.{cut_from, body_awaited}
use Rattle.http_front.proofs.message.with_head.Goals as goal

pub returns-in-Err : goal.returns-in-Err
returns-in-Err c =
    let head = c.requires.0 in
    let shows = c.requires.1 in
    at_fault (shows_head c.args.buffer.now c.args.parsed head shows c.requires.2) (sym (c.in-Err.ensures.judged head shows))

pub returns-in-Ok : goal.returns-in-Ok
returns-in-Ok c =
    let head = c.requires.0 in
    let shows = c.requires.1 in
    body_awaited c.args.buffer.now c.args.parsed head c.in-Ok.body shows c.requires.2 (c.in-Ok.ensures.judged head shows) c.if-body-buffer.true

pub returns-in-Ok-2 : goal.returns-in-Ok-2
returns-in-Ok-2 c =
    let head = c.requires.0 in
    let shows = c.requires.1 in
    cut_from c.args.buffer.now c.args.parsed head c.in-Ok.body c.closes.result shows c.requires.2 (c.in-Ok.ensures.judged head shows) c.if-body-buffer.false (c.closes.ensures head shows)
