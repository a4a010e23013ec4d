-- What `next` took is the first character.
use Rattle.std.proofs.Common.{◌≡◌, ◌∷◌, ap, map, sym, ◌∙◌}
use Rattle.std.specs.Str.{chars}
use Rattle.std.proofs.lemmas.Str.{chars_past_char}
use Rattle.glob_patterns.specs.Letters.{folded}
use Rattle.glob_patterns.proofs.fitting.next_letter.Goals as goal

pub returns : goal.returns
returns c =
    let first : chars c.args.text.now ≡ c.in_ok-c.c ∷ chars c.next.new.self.rest.now = chars_past_char _ _ _ c.utf8.text (sym c.chars-rest.ensures.rest ∙ c.in_ok-c.ensures.steps.0) in
    (rw (c.fold.ensures.value, c.as_str.ensures) (ap (map (folded c.args.case)) first), c.fold.ensures.again)
