use Rattle.cond_ops.proofs.read_values.date_form.Goals as goal

pub returns-in-None : goal.returns-in-None
returns-in-None c = λ policy related. c.in-None.ensures related.0 related.2
