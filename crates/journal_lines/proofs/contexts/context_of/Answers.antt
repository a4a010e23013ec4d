use Rattle.std.proofs.Common.{◌≡◌, Vec, Global, Option, Some, true, sym, ap, ◌∙◌}
use Rattle.std.specs.Option.{option_map}
use Rattle.enc_context.specs.declared.pairs.Pair.{Pair}
use Rattle.enc_context.proofs.PairFacts.{distinct_from_order}
use Rattle.journal_lines.specs.Contexts.{ascend, pairs_of}
use Rattle.journal_lines.proofs.ContextFacts.{in_order, taken}
use Rattle.journal_lines.proofs.contexts.context_of.Goals as goal

pub from_pairs-requires : goal.from_pairs-requires
from_pairs-requires c =
    let pairs = c.in-Some.pairs.items in
    let ascending : ascend pairs ≡ true = ap ascend (sym c.as_slice.ensures.value) ∙ sym c.ascend.ensures ∙ c.if-not-ascend.false in
    distinct_from_order pairs (in_order pairs ascending)

pub returns-in-Ok : goal.returns-in-Ok
returns-in-Ok c =
    let pairs = c.in-Some.pairs.items in
    let ascending : ascend pairs ≡ true = ap ascend (sym c.as_slice.ensures.value) ∙ sym c.ascend.ensures ∙ c.if-not-ascend.false in
    let found = sym c.in_ok-pairs.ensures ∙ ap (λ (o : Option (Vec Pair Global)). option_map (λ p. p.items) o) c.in-Some.is in
    ap Some (c.in-Ok.ensures.kept (in_order pairs ascending)) ∙ taken pairs (pairs_of c.args.bytes.now) ascending c.in-Ok.ensures.fits found
