use Rattle.http_front.proofs.Answering.{same_message}
use Rattle.http_front.proofs.laws.one_message.Goals as goal

pub returns : goal.returns
returns c = same_message
