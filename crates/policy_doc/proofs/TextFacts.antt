-- Lists and objects, and how many items and members they have.
use Rattle.std.proofs.Common.{◌≡◌, Bool, true, false, List, [], ◌∷◌, length, refl, ap, arith}
use Rattle.std.specs.Prelude.{String, not, ◌==◌}
use Rattle.std.specs.declared.alloc.Global.{Global}
use Rattle.std.specs.Bool.{IsTrue}
use Rattle.std.proofs.Math.Dec.{eqb-suc-zero}
use Rattle.serde_json.specs.View.{items_view, members_view}
use Rattle.serde_json.specs.declared.value.Value.{Value}
use Rattle.policy_doc.specs.Names.{has_members, has_items}
use Rattle.policy_doc.specs.Texts.{items_len}

pub items_len-view : (values : List Value) → items_len (items_view values) ≡ length values
items_len-view [] = refl
items_len-view (value ∷ values) = let more : items_len (items_view values) ≡ length values = items_len-view values in omega arith

pub has_members-view : (b : Bool) (entries : List (String Global × Value)) → (IsTrue b → length entries ≡ 0) → (length entries ≡ 0 → IsTrue b) → not b ≡ has_members (members_view entries)
has_members-view b [] none empty = ap not (empty refl)
has_members-view true (entry ∷ entries) none empty = let bad : length (entry ∷ entries) ≡ 0 = none refl in absurd (omega arith)
has_members-view false (entry ∷ entries) none empty = refl

pub has_items-view : (values : List Value) → not (length values == 0) ≡ has_items (items_view values)
has_items-view [] = refl
has_items-view (value ∷ values) = ap not (eqb-suc-zero (length values))
