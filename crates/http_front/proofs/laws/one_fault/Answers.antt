use Rattle.http_front.proofs.Answering.{one_fault_lem}
use Rattle.http_front.proofs.laws.one_fault.Goals as goal

pub returns : goal.returns
returns c = one_fault_lem
