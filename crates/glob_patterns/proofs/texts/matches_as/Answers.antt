use Rattle.std.proofs.Common.{subst}
use Rattle.glob_patterns.specs.Letters.{AreLettersOf}
use Rattle.glob_patterns.proofs.LetterFacts.{answer_ascii}
use Rattle.glob_patterns.proofs.StepFacts.{cost_ascii}
use Rattle.glob_patterns.proofs.texts.matches_as.Goals as goal

pub returns-in-Ascii-clause-value : goal.returns-in-Ascii-clause-value
returns-in-Ascii-clause-value g c =
    answer_ascii c.args.case c.args.pattern.now c.args.text.now c.as_bytes.result.now c.matches_units.result (subst (AreLettersOf c.args.text.now) c.in-Ascii.is c.requires) c.as_bytes.ensures.value c.matches_units.ensures.value

pub returns-in-Ascii-clause-cost : goal.returns-in-Ascii-clause-cost
returns-in-Ascii-clause-cost g c =
    cost_ascii c.args.pattern.now c.args.text.now c.as_bytes.result.now c.args.read.now c.args.steps.now _ (subst (AreLettersOf c.args.text.now) c.in-Ascii.is c.requires) c.as_bytes.ensures.value c.in-Ascii.is c.matches_units.ensures.cost
