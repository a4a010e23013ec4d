use Rattle.std.proofs.Common.{◌∙◌, sym, ap}
use Rattle.http_front.specs.Judge.{has_close}
use Rattle.http_front.proofs.Parts.{some_comma, close_first, close_later, close_whole}
use Rattle.http_front.proofs.closing.one_says_close.Goals as goal

pub returns-then-says_close : goal.returns-then-says_close
returns-then-says_close c = close_first c.loop-n.rest.now c.in-Some.n c.in-Some.ensures c.if-says_close.ensures ∙ c.loop-n.invariant

pub behind-rest-requires : goal.behind-rest-requires
behind-rest-requires c = (some_comma c.loop-n.rest.now c.in-Some.n c.in-Some.ensures).0

pub loop-n-preserved : goal.loop-n-preserved
loop-n-preserved c = ap has_close c.behind-rest.ensures ∙ close_later c.loop-n.rest.now c.in-Some.n c.in-Some.ensures c.if-says_close.ensures ∙ c.loop-n.invariant

pub returns : goal.returns
returns c = c.says_close-2.ensures ∙ sym (close_whole c.loop-n.rest.now c.in_default.ensures) ∙ c.loop-n.invariant
