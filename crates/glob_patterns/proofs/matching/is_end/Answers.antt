-- The end of a text that is as long as the part is the only one at which it can stand.
use Rattle.std.proofs.Common.{sym, ◌∙◌}
use Rattle.std.proofs.lemmas.Bool.{lt-leb}
use Rattle.glob_patterns.specs.Letters.{letters, read_as}
use Rattle.glob_patterns.proofs.LetterFacts.{letters_long, read_long, no_star}
use Rattle.glob_patterns.proofs.PartFacts.{end_room, end_none}
use Rattle.glob_patterns.proofs.matching.is_end.Goals as goal

pub returns-then-count-len-clause-value : goal.returns-then-count-len-clause-value
returns-then-count-len-clause-value g c =
    end_room (letters c.args.case c.args.segment.now) (read_as c.args.case c.args.units) (no_star c.args.case c.args.segment.now c.requires)
    c.character_count-count.result c.len-len.result
    (c.character_count-count.ensures ∙ sym (letters_long c.args.case c.args.segment.now))
    (c.len-len.ensures.value ∙ sym (read_long c.args.case c.args.units))
    c.if-count-len.true c.fits_at.result c.fits_at.ensures.value

pub returns-else-count-len-clause-value : goal.returns-else-count-len-clause-value
returns-else-count-len-clause-value g c =
    end_none (letters c.args.case c.args.segment.now) (read_as c.args.case c.args.units) (no_star c.args.case c.args.segment.now c.requires)
    c.character_count-count.result c.len-len.result
    (c.character_count-count.ensures ∙ sym (letters_long c.args.case c.args.segment.now))
    (c.len-len.ensures.value ∙ sym (read_long c.args.case c.args.units))
    c.if-count-len.false _ (lt-leb c.character_count-count.result c.len-len.result c.if-count-len.false)
