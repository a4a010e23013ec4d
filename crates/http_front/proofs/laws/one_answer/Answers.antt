use Rattle.http_front.proofs.Answering.{one_answer_lem}
use Rattle.http_front.proofs.laws.one_answer.Goals as goal

pub returns : goal.returns
returns c = one_answer_lem
