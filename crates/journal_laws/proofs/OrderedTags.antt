-- The tags of a request, in the order of their keys, have the forms that an entry's tags have.
use Rattle.std.proofs.Common.{◌≡◌, ◌&&◌, ◌≤◌, nat_le, not, le-leb, Bool, true, false, List, [], ◌∷◌, length, Some, refl, ap, arith, le_trans}
use Rattle.std.specs.Prelude.{All}
use Rattle.std.specs.List.{list_all}
use Rattle.std.proofs.lemmas.Bool.Decides.{nat_tests}
use Rattle.std.proofs.lemmas.List.Elements.{All-nil, All-cons, All-head, All-tail}
use Rattle.kms_json.specs.Fields.{is_tag, are_tags}
use Rattle.resource_tags.specs.Proper.{is_unreserved, repeats, are_proper}
use Rattle.resource_tags.specs.declared.tags.Tag.{Tag}
use Rattle.account_core.specs.Fitting.{are_formed}
use Rattle.tag_order.specs.Order.{in_order, are_in_order}
use Rattle.tag_order.proofs.OrderFacts.{is_in_order, in_order_once, all_in_order, fewer_in_order}

parts_true : (a b : Bool) → (a && b) ≡ true → (a ≡ true) × (b ≡ true)
parts_true true true e = (refl, refl)
parts_true true false e = cc
parts_true false b e = cc

both_true : (a b : Bool) → a ≡ true → b ≡ true → (a && b) ≡ true
both_true true true first second = refl
both_true true false first second = cc
both_true false b first second = cc

module _ (p : Tag → Bool) where
  abbrev Passes : Tag → Type 0
  Passes tag = p tag ≡ true

  each_passes : (tags : List Tag) → list_all p tags ≡ true → All Passes tags
  each_passes [] e = All-nil Passes
  each_passes (tag ∷ tags) e = let both = parts_true (p tag) (list_all p tags) e in All-cons Passes tag tags both.0 (each_passes tags both.1)

  all_pass : (tags : List Tag) → All Passes tags → list_all p tags ≡ true
  all_pass [] all = refl
  all_pass (tag ∷ tags) all = both_true (p tag) (list_all p tags) (All-head Passes tag tags all) (all_pass tags (All-tail Passes tag tags all))

  all_pass_in_order : (tags : List Tag) → list_all p tags ≡ true → list_all p (in_order tags) ≡ true
  all_pass_in_order tags e = all_pass (in_order tags) (all_in_order Passes tags (each_passes tags e))

few_of : (n : _) → nat_le n 50 ≡ true → n ≤ 50
few_of n e = grind (arith, nat_tests, e)

pub ordered_formed : (tags : List Tag) → are_tags (Some tags) ≡ true → are_proper tags ≡ true → are_formed (in_order tags) ≡ true
ordered_formed tags formed proper =
    let sized = parts_true (nat_le (length tags) 50) (list_all is_tag tags) formed in
    let own = parts_true (list_all is_unreserved tags) (not (repeats tags)) proper in
    let few : length (in_order tags) ≤ 50 = le_trans (fewer_in_order tags) (few_of (length tags) sized.0) in
    both_true (are_tags (Some (in_order tags))) (are_proper (in_order tags) && are_in_order (in_order tags))
    (both_true (nat_le (length (in_order tags)) 50) (list_all is_tag (in_order tags)) (le-leb (length (in_order tags)) 50 few) (all_pass_in_order is_tag tags sized.1))
    (both_true (are_proper (in_order tags)) (are_in_order (in_order tags))
    (both_true (list_all is_unreserved (in_order tags)) (not (repeats (in_order tags))) (all_pass_in_order is_unreserved tags own.0) (ap not (in_order_once tags)))
    (is_in_order tags))
