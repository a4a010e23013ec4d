use Rattle.ghash_field.proofs.ProductFacts.{products_made}
use Rattle.ghash_field.proofs.products.Goals as goal

pub returns : goal.returns
returns c = λ key n le e. products_made key n _ _ _ _ le e c.next_shifted-b.ensures c.next_shifted-c.ensures c.next_shifted-d.ensures
