use Rattle.packed_texts.proofs.CutFacts.{either_whole, pushed_cut}
use Rattle.packed_texts.proofs.packed.PackedTexts.push.Goals as goal

pub invariant_of-self : goal.invariant_of-self
invariant_of-self c =
    either_whole c.push_parts.result _ _ _ _ _ c.self.invariant c.utf8.text c.push_parts.ensures.bytes c.push_parts.ensures.lengths c.push_parts.ensures.bytes_stay c.push_parts.ensures.lengths_stay

pub returns-clause-ok : goal.returns-clause-ok
returns-clause-ok c =
    pushed_cut c.push_parts.result _ _ _ _ _ _ c.self.invariant c.self.view_is c.push_parts.ensures.bytes c.push_parts.ensures.lengths
