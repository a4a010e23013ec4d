use Rattle.session_front.proofs.Asks.{proper_if_ok}
use Rattle.session_front.proofs.Signers.{caller_is_of}
use Rattle.session_front.proofs.asking.early.Goals as goal

pub returns-clause-proper : goal.returns-clause-proper
returns-clause-proper c = λ account of.
    let m = c.requires.0 in
    let caller = caller_is_of account c.args.trust.now c.args.region.now m c.args.moment c.in_ok-caller.caller of (c.in_ok-caller.ensures m c.requires.1) in
    proper_if_ok account c.args.moment c.in_ok-caller.caller m c.ask_by.result caller (c.ask_by.ensures m c.requires.1)
