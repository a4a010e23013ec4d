use Rattle.std.proofs.lemmas.Slice.Eq.{bytes_eq-Decides}
use Rattle.std.specs.Prelude.{slice_range}
use Rattle.std.proofs.Common.{◌≡◌, ◌-◌, Bool, true, false, ℕ, List, [], ◌∷◌, ◌++◌, length, sym, ◌∙◌, ap, arith}
use Rattle.kept_journal.specs.Lines.{seal_of, sealed}
use Rattle.kept_journal.proofs.Readings.{line_long, middle}
use Rattle.kept_journal.proofs.reading.sealed_in.Goals as goal

pub returns-then-line-lt77 : goal.returns-then-line-lt77
returns-then-line-lt77 c text e = absurd (omega (arith, ap length e, line_long c.args.key.now c.args.last.now text, c.if-line-lt77.true))

pub returns : goal.returns
returns c text e =
    let key = c.args.key.now in
    let last = c.args.last.now in
    let same : c.as_slice.result.now ≡ c.args.line.now =
    c.as_slice.ensures.value ∙ c.in_ok-right.ensures ∙ ap (λ (s : List ℕ). 123 ∷ (sealed (slice_range c.args.line.now 1 (length c.args.line.now - 76)) s ++ 10 ∷ [])) c.seal_of-seal.ensures
    ∙ ap (λ (t : List ℕ). 123 ∷ (sealed t (seal_of key last t) ++ 10 ∷ [])) (middle key last text c.args.line.now e) ∙ sym e in
    let both : false ≡ true = c.if-eq.ensures ∙ (bytes_eq-Decides c.as_slice.result.now c.args.line.now).1 same in
    cc
