use Rattle.std.proofs.Common.{◌==◌, length, sym, ap, ◌∙◌}
use Rattle.packed_texts.proofs.CutFacts.{length_cut}
use Rattle.packed_texts.proofs.slices.TextSlice.is_empty.Goals as goal

pub returns : goal.returns
returns c =
    c.is_empty.ensures ∙ ap (λ n. n == 0) (sym (length_cut c.self.inside.lengths.now c.self.inside.joined.now) ∙ ap length c.self.view_is)
