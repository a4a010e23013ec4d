use Rattle.std.proofs.Common.{ℕ, List, ◌∙◌, subst}
use Rattle.kms_program.specs.Program.{SaysLine}
use Rattle.kms_program.proofs.lines.say_refused_at_line.Goals as goal

pub returns-clause-said : goal.returns-clause-said
returns-clause-said g c =
    subst (λ (line : List ℕ). SaysLine line (g.L.Link.shows c.args.link.now) (g.L.Link.shows c.say.new.link)) (c.as_bytes.ensures.value ∙ c.in_ok-text.ensures) c.say.ensures
