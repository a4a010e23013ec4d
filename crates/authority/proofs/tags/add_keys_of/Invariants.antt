use Rattle.std.proofs.Common.{◌≡◌, ◌++◌, map, take}
use Rattle.authority.proofs.tags.add_keys_of.Given as goal

abbrev pub invariant-loop-tag : goal.invariant-loop-tag
invariant-loop-tag l = l.keys.items ≡ l.fn.keys.items ++ map (λ tag. tag.key) (take l.tag-index l.tags)
