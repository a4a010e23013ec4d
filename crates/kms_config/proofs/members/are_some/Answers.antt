use Rattle.std.proofs.Common.{ℕ, sym, ap, nat_le}
use Rattle.kms_config.proofs.ItemFacts.{items_len-view}
use Rattle.kms_config.proofs.members.are_some.Goals as goal

pub returns : goal.returns
returns c = ap (λ (n : ℕ). nat_le 1 n) (sym (items_len-view c.args.values.now))
