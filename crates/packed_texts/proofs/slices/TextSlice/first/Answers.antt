use Rattle.packed_texts.proofs.CutFacts.{first_many, are_take}
use Rattle.std.proofs.Common.{take, ap, ◌∙◌}
use Rattle.packed_texts.proofs.slices.TextSlice.first.Goals as goal

pub invariant_of-result : goal.invariant_of-result
invariant_of-result c = are_take c.min-count.result c.self.inside.lengths.now c.self.inside.joined.now c.self.invariant

pub returns : goal.returns
returns c =
    first_many c.args.count c.self.inside.lengths.now c.self.inside.joined.now c.min-count.result c.min-count.ensures ∙ ap (take c.args.count) c.self.view_is
