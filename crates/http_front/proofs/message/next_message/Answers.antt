use Rattle.std.proofs.Common.{List, ℕ, subst, arith, length-take}
use Rattle.httparse.specs.Grammar.{HasNoRequest, MayBecomeRequest, NeverHasRequest}
use Rattle.httparse.specs.Spans.{RequestExceeds, RequestOverflows}
use Rattle.http_front.specs.Parsed.{Shows}
use Rattle.http_front.specs.Message.{hopeless, long_head}
use Rattle.http_front.proofs.Heads.{shows_front, never_front}
use Rattle.http_front.proofs.Answering.{head_awaited, crowded_front}
use Rattle.http_front.proofs.message.next_message.Goals as goal

pub with_head-requires : goal.with_head-requires
with_head-requires c =
    let head = c.in-Whole.ensures.0 in
    let shows = subst (λ (front : List ℕ). Shows front c.in-Whole.parsed head) c.first.ensures c.in-Whole.ensures.1 in
    (head, shows_front 16384 c.args.buffer.now c.in-Whole.parsed head shows, omega (arith, shows.fits, length-take 16384 c.args.buffer.now))

pub returns-in-Short : goal.returns-in-Short
returns-in-Short c =
    let none = subst HasNoRequest c.first.ensures c.in-Short.ensures.0 in
    let goes_on = subst MayBecomeRequest c.first.ensures c.in-Short.ensures.1 in
    head_awaited c.args.buffer.now c.if-buffer-lt-LONGEST_HEAD.true none goes_on

pub returns-in-Short-2 : goal.returns-in-Short-2
returns-in-Short-2 c = long_head (record { many = c.if-buffer-lt-LONGEST_HEAD.false; none = subst HasNoRequest c.first.ensures c.in-Short-2.ensures.0 })

pub returns-in-Crowded : goal.returns-in-Crowded
returns-in-Crowded c =
    crowded_front c.args.buffer.now (subst (RequestExceeds 64) c.first.ensures c.in-Crowded.ensures.0) (subst (RequestOverflows 64) c.first.ensures c.in-Crowded.ensures.1)

pub returns-in-Differs : goal.returns-in-Differs
returns-in-Differs c = hopeless (never_front 16384 c.args.buffer.now (subst NeverHasRequest c.first.ensures c.in-Differs.ensures))
