use Rattle.std.proofs.Common.{ℕ, sym, ap, nat_le}
use Rattle.kms_config.proofs.ItemFacts.{items_len-view}
use Rattle.kms_config.proofs.members.are_few.Goals as goal

pub returns : goal.returns
returns c = ap (λ (n : ℕ). nat_le n c.args.most) (sym (items_len-view c.args.values.now))
