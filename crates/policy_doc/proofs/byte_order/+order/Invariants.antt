use Rattle.std.proofs.Common.{drop}
use Rattle.serde_json.specs.View.{items_view, members_view}
use Rattle.policy_doc.specs.ByteOrder.{AreItemsInByteOrder}
use Rattle.policy_doc.proofs.OrderFacts.{AreEachInByteOrder}
use Rattle.policy_doc.proofs.byte_order.+order.Given as goal

abbrev pub invariant-items_in_byte_order-loop-item : goal.invariant-items_in_byte_order-loop-item
invariant-items_in_byte_order-loop-item l = AreItemsInByteOrder (items_view (drop l.item-index l.items)) → AreItemsInByteOrder (items_view l.items)

abbrev pub invariant-object_in_byte_order-loop-name : goal.invariant-object_in_byte_order-loop-name
invariant-object_in_byte_order-loop-name l = AreEachInByteOrder (members_view l._name-iterator) → AreEachInByteOrder (members_view l.members.entries)
