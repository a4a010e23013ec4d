use Rattle.ghash_field.proofs.ProductFacts.{shifted_from_table}
use Rattle.ghash_field.proofs.shifted_by_a_byte.Goals as goal

pub returns : goal.returns
returns c = shifted_from_table c.args.block c.from.result c.from.ensures
