use Rattle.std.proofs.Common.{sym, ap}
use Rattle.http_front.specs.declared.judge.HttpFault.{HttpFault}
use Rattle.kms_session.specs.Answers.{fault_answer}
use Rattle.kms_session.proofs.session.fault_body.Goals as goal

pub returns-in-TwoLengths : goal.returns-in-TwoLengths
returns-in-TwoLengths c = sym (ap (λ (why : HttpFault). (fault_answer why).body) c.in-TwoLengths.is)
