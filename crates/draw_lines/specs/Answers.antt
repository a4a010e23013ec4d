-- Facts for one answer of a draw.
use Rattle.draw_lines.specs.declared.line.Drawn.{Drawn}
use Rattle.draw_lines.specs.declared.line.Drawn.TheVariants.{Done, Spent}

-- a fact where the draw was done
abbrev pub OnDone : Drawn → Type 0 → Type 0
OnDone Done P = P
OnDone Spent P = Unit {0}

-- a fact where the line had too few words left
abbrev pub OnSpent : Drawn → Type 0 → Type 0
OnSpent Done P = Unit {0}
OnSpent Spent P = P
