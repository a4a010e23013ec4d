use Rattle.glob_patterns.proofs.LetterFacts.{exact_answer}
use Rattle.glob_patterns.proofs.texts.matches_read.Goals as goal

pub returns-clause-value : goal.returns-clause-value
returns-clause-value g c = exact_answer c.args.pattern.now c.args.text.now c.matches_as.result c.matches_as.ensures.value
