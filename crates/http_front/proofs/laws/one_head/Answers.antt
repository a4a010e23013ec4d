use Rattle.http_front.proofs.OneHead.{one_head}
use Rattle.http_front.proofs.laws.one_head.Goals as goal

pub returns : goal.returns
returns c = one_head
