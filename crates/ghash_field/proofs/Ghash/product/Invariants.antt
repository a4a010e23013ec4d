use Rattle.std.proofs.Common.{◌≡◌, ◌-◌, ◌*◌, ◌%◌, ◌^◌}
use Rattle.ghash_field.specs.Ghash.{product}
use Rattle.ghash_field.proofs.Ghash.product.Given as goal

-- after i bytes the sum is the product of those bytes, moved to the left end of a block
abbrev pub invariant-loop-i : goal.invariant-loop-i
invariant-loop-i l = l.sum ≡ product (l.block % 2 ^ (8 * l.i) * 2 ^ (128 - 8 * l.i)) l.self.key
