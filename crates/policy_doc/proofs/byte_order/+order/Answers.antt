use Rattle.std.proofs.Common.{sym, subst}
use Rattle.serde_json.specs.View.{members_view}
use Rattle.policy_doc.proofs.OrderFacts.{AreEachInByteOrder, map_in_order}
use Rattle.policy_doc.proofs.byte_order.+order.Goals as goal

pub object_in_byte_order-returns : goal.object_in_byte_order-returns
object_in_byte_order-returns t c =
    map_in_order _ c.iter-name-items.ensures.ordered (c.loop-name.invariant (subst (λ es. AreEachInByteOrder (members_view es)) (sym c.in-None.ensures.steps.0) tt))
