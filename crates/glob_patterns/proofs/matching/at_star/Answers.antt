-- A `split_once` at an ASCII character, by characters.
use Rattle.std.proofs.Common.{lit<}
use Rattle.std.proofs.lemmas.Str.Pattern.{split_parts}
use Rattle.glob_patterns.proofs.LetterFacts.{cut_chars}
use Rattle.glob_patterns.proofs.matching.at_star.Goals as goal

pub returns : goal.returns
returns c =
    cut_chars c.args.pattern.now c.utf8.pattern c.split_once.result
    (split_parts 42 c.args.pattern.now c.split_once.result c.split_once.ensures.cases (lit< tt))
