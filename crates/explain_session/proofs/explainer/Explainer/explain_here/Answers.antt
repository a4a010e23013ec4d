use Rattle.explain_session.proofs.Explainers.{lacks_all, lacks_line}
use Rattle.explain_session.proofs.explainer.Explainer.explain_here.Goals as goal

pub returns-in_err-certificate-clause-lacking : goal.returns-in_err-certificate-clause-lacking
returns-in_err-certificate-clause-lacking c = lacks_all c.from_residual.result c.args.self.now c.args.ask.now

pub returns-clause-lacking : goal.returns-clause-lacking
returns-clause-lacking c = lacks_line c.certificate_line.result c.args.self.now c.args.ask.now c.answer.new.self c.in_ok-reply.ensures.answers.next
