-- Each character that takes the one at its place leaves the rest to fit behind it.
use Rattle.std.proofs.Common.{◌≡◌, ◌<◌, ◌∷◌, length, ap, sym, ◌∙◌, rules, arith}
use Rattle.glob_patterns.specs.Letters.{letters, read_as}
use Rattle.glob_patterns.proofs.LetterFacts.{read_long}
use Rattle.glob_patterns.proofs.MarkFacts.{fits_behind}
use Rattle.glob_patterns.proofs.fitting.fits_at.Goals as goal

pub loop-wanted-preserved : goal.loop-wanted-preserved
loop-wanted-preserved g c =
    let case = c.args.case in
    let whole = letters case c.loop-wanted.rest.now in
    let left = letters case c.in-Some.others.now in
    let one : length whole ≡ length (c.in-Some.wanted ∷ left) = ap length c.in-Some.ensures.0 in
    let within : c.loop-wanted.place < length (read_as case c.args.units) = omega (arith, one, read_long case c.args.units) in
    record {
      utf8 = search rules;
      room = omega (arith, one);
      cost = omega (arith, one);
      as_good = c.loop-wanted.invariant.as_good
          ∙ fits_behind c.in-Some.wanted c.letter_at-letter.result whole left (read_as case c.args.units) c.loop-wanted.place c.in-Some.ensures.0 within c.letter_at-letter.ensures (sym c.takes_letter.ensures ∙ c.if-not-takes_letter.false);
    }
