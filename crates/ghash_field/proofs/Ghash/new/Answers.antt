use Rattle.std.proofs.Common.{arith}
use Rattle.ghash_field.proofs.ProductFacts.{first_power, second_power}
use Rattle.ghash_field.proofs.Ghash.new.Goals as goal

pub invariant_of-result : goal.invariant_of-result
invariant_of-result c =
    let key = c.number_of-key.result in
    let first = c.products-first_half.ensures key 124 (omega arith) (first_power key) in
    record {
      first_products = first;
      second_products = c.products-second_half.ensures key 120 (omega arith) (second_power key _ _ c.next_shifted.ensures (first 1 (omega arith)));
    }
