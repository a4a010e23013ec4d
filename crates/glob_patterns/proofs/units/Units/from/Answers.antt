use Rattle.std.proofs.Common.{sym, ap, ◌∙◌, map, drop}
use Rattle.std.proofs.lemmas.List.{drop-map, take_rest}
use Rattle.glob_patterns.specs.Letters.{folded, read_as}
use Rattle.glob_patterns.proofs.units.Units.from.Goals as goal

pub returns-in-Bytes-clause-value : goal.returns-in-Bytes-clause-value
returns-in-Bytes-clause-value c = λ case. let bytes = c.in-Bytes.bytes.now in
    ap (map (folded case)) (take_rest bytes c.args.start)
    ∙ sym (drop-map (folded case) c.args.start bytes)
    ∙ ap (λ units. drop c.args.start (read_as case units)) (sym c.in-Bytes.is)

pub returns-in-Chars-clause-value : goal.returns-in-Chars-clause-value
returns-in-Chars-clause-value c = λ case. let chars = c.in-Chars.chars.now in
    ap (map (folded case)) (take_rest chars c.args.start)
    ∙ sym (drop-map (folded case) c.args.start chars)
    ∙ ap (λ units. drop c.args.start (read_as case units)) (sym c.in-Chars.is)
