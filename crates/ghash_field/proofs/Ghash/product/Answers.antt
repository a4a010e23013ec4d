use Rattle.std.proofs.Common.{◌∙◌, ap, arith, bit_xor, bit_and, slice_index, ◌/◌, ◌*◌, ◌^◌, ℕ}
use Rattle.ghash_field.proofs.ProductFacts.{product_none, product_more, product_all}
use Rattle.ghash_field.proofs.Ghash.product.Goals as goal

pub loop-i-init : goal.loop-i-init
loop-i-init c = product_none c.args.block c.args.self.now.key

pub loop-i-preserved : goal.loop-i-preserved
loop-i-preserved c =
    let s = c.args.self.now in
    let byte : ℕ = bit_and (c.args.block / 2 ^ (8 * c.loop-i.i)) 255 in
    ap (λ (n : ℕ). bit_xor (bit_xor n (slice_index s.first_half (byte / 16))) (slice_index s.second_half (bit_and byte 15))) c.shifted_by_a_byte.ensures
    ∙ product_more s.first_half s.second_half s.key c.args.block c.loop-i.sum c.loop-i.i (omega arith) s.first_products s.second_products c.loop-i.invariant

pub returns : goal.returns
returns c = c.loop-i.invariant ∙ product_all c.args.block c.args.self.now.key c.loop-i.i (omega arith) (omega arith)
