use Rattle.std.proofs.Common.{length, sym, ap, ◌∙◌}
use Rattle.packed_texts.proofs.CutFacts.{length_cut}
use Rattle.packed_texts.proofs.slices.TextSlice.len.Goals as goal

pub returns : goal.returns
returns c = sym (length_cut c.self.inside.lengths.now c.self.inside.joined.now) ∙ ap length c.self.view_is
