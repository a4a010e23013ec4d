-- Without a `*` the part is as long as the text.
use Rattle.std.proofs.Common.{sym, ◌∙◌}
use Rattle.std.proofs.lemmas.Bool.{ne_eqb}
use Rattle.glob_patterns.specs.Letters.{letters, read_as}
use Rattle.glob_patterns.proofs.LetterFacts.{letters_long, read_long, no_star}
use Rattle.glob_patterns.proofs.PartFacts.{whole_room, whole_none}
use Rattle.glob_patterns.proofs.matching.is_whole.Goals as goal

pub returns-then-len-count-clause-value : goal.returns-then-len-count-clause-value
returns-then-len-count-clause-value g c =
    whole_room (letters c.args.case c.args.segment.now) (read_as c.args.case c.args.units) (no_star c.args.case c.args.segment.now c.requires)
    c.character_count-count.result c.len.result
    (c.character_count-count.ensures ∙ sym (letters_long c.args.case c.args.segment.now))
    (c.len.ensures.value ∙ sym (read_long c.args.case c.args.units))
    c.if-len-count.true c.fits_at.result c.fits_at.ensures.value

pub returns-else-len-count-clause-value : goal.returns-else-len-count-clause-value
returns-else-len-count-clause-value g c =
    whole_none (letters c.args.case c.args.segment.now) (read_as c.args.case c.args.units) (no_star c.args.case c.args.segment.now c.requires)
    c.character_count-count.result c.len.result
    (c.character_count-count.ensures ∙ sym (letters_long c.args.case c.args.segment.now))
    (c.len.ensures.value ∙ sym (read_long c.args.case c.args.units))
    c.if-len-count.false _ (ne_eqb c.len.result c.character_count-count.result c.if-len-count.false)
