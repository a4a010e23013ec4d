use Rattle.packed_texts.proofs.CutFacts.{cut_whole}
use Rattle.packed_texts.proofs.packed.PackedTexts.all.Goals as goal

pub new-requires : goal.new-requires
new-requires c = rw (c.as_slice.ensures.value, c.as_str.ensures.value) (cut_whole _ _ c.self.invariant)
