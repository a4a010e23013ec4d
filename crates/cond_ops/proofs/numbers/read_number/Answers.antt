use Rattle.std.proofs.Common.{FitsSigned, w64, rules, ap, sym, ◌∙◌}
use Rattle.std.specs.Str.{bytes_eq}
use Rattle.std.proofs.lemmas.Int.{to_z-of_z}
use Rattle.cond_ops.proofs.NumberFacts.{not_read, printed_otherwise}
use Rattle.cond_ops.proofs.numbers.read_number.Goals as goal

pub returns-in_err-number : goal.returns-in_err-number
returns-in_err-number c =
    rw c.from_residual.ensures (not_read c.args.text.now c.parse.result c.parse.ensures.value.0 c.ok.result c.ok.ensures.value c.in_err-number.was)

pub returns-else-eq : goal.returns-else-eq
returns-else-eq c =
    let number = c.in_ok-number.number in
    let fits : FitsSigned w64 number = search rules in
    let text = simp to_z-of_z at c.format.ensures.text in
    printed_otherwise c.args.text.now c.parse.result c.parse.ensures.value.0 c.ok.result c.ok.ensures.value number c.in_ok-number.was
    (ap (λ t. bytes_eq t c.args.text.now) (sym text) ∙ (sym c.eq.ensures ∙ c.if-eq.false))
