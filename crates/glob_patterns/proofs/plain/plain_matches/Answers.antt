-- The two comparisons are those of `kms_names`.
use Rattle.glob_patterns.proofs.LetterFacts.{answer_exact, answer_nocase}
use Rattle.glob_patterns.proofs.plain.plain_matches.Goals as goal

pub returns-in-Exact-clause-value : goal.returns-in-Exact-clause-value
returns-in-Exact-clause-value g c =
    answer_exact c.args.case c.args.pattern.now c.args.text.now c.glob.result c.in-Exact.is c.glob.ensures.value

pub returns-in-AsciiIgnored-clause-value : goal.returns-in-AsciiIgnored-clause-value
returns-in-AsciiIgnored-clause-value g c =
    answer_nocase c.args.case c.args.pattern.now c.args.text.now c.glob_nocase.result c.in-AsciiIgnored.is c.glob_nocase.ensures.value
