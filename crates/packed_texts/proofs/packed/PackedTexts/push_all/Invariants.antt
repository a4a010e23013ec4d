use Rattle.std.proofs.Common.{◌≡◌, ◌++◌, take}
use Rattle.packed_texts.proofs.packed.PackedTexts.push_all.Given as goal

abbrev pub invariant-loop-text : goal.invariant-loop-text
invariant-loop-text l = l.self ≡ l.fn.self ++ take l.text-index l.texts
