use Rattle.published_account.proofs.Settling.{went_on, settles_err}
use Rattle.published_account.proofs.entrance.answer.Goals as goal

pub returns-in_err-reply : goal.returns-in_err-reply
returns-in_err-reply c =
    settles_err c.args.account.now.facts c.args.account.now.entries c.args.ask.now c.args.draws.now c.decide_read.new.places c.from_residual.result c.from_residual.ensures.0 c.in_err-reply.ensures.within

pub returns-in_err-answered : goal.returns-in_err-answered
returns-in_err-answered c =
    settles_err c.args.account.now.facts c.args.account.now.entries c.args.ask.now c.args.draws.now c.decide_read.new.places c.from_residual-in_err-answered.result c.from_residual-in_err-answered.ensures.0
    (went_on c.args.account.now.facts c.args.account.now.entries c.args.ask.now c.args.draws.now c.decide_read.new.places c.in_ok-reply.ensures.used)
