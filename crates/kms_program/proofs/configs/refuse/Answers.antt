use Rattle.std.proofs.Common.{ℕ, List, refl, inl, subst}
use Rattle.kms_program.specs.Program.{SaysLine, refused_line}
use Rattle.kms_program.proofs.configs.refuse.Goals as goal

pub returns-in-Ok : goal.returns-in-Ok
returns-in-Ok g c = λ clock shelf later. inl (record {
  says = subst (λ (path : List ℕ). SaysLine (refused_line path) (g.L.Link.shows c.args.link.now) (g.L.Link.shows c.say_refused_at.new.link)) c.as_str.ensures.value c.in-Ok.ensures.said;
  status_is = refl;
  clock = refl;
})
