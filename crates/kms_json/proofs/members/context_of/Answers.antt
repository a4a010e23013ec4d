use Rattle.std.proofs.Common.{Option, Vec, Global, subst}
use Rattle.std.specs.Option.{IfSome}
use Rattle.enc_context.specs.declared.pairs.Pair.{Pair}
use Rattle.enc_context.specs.Pairs.{IsInOrder}
use Rattle.enc_context.proofs.PairFacts.{distinct_from_order}
use Rattle.kms_json.proofs.members.context_of.Goals as goal

pub from_pairs-requires : goal.from_pairs-requires
from_pairs-requires c =
    distinct_from_order c.in-Some-2.pairs.items (subst (λ (found : Option (Vec Pair Global)). IfSome found (λ pairs. IsInOrder pairs.items)) c.in-Some-2.is c.in_ok-pairs.ensures.order)
