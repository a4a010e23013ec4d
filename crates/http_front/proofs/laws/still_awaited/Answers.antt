use Rattle.http_front.proofs.Answering.{awaits_more}
use Rattle.http_front.proofs.laws.still_awaited.Goals as goal

pub returns : goal.returns
returns c = λ bytes piece whole a short. awaits_more piece a short
