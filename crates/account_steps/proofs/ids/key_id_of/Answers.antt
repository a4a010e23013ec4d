use Rattle.std.proofs.Common.{◌≡◌, ◌∙◌, length, codes, rules, arith, take, ap, take-take}
use Rattle.account_steps.proofs.KeyIds.{id_of_parts}
use Rattle.account_steps.proofs.ids.key_id_of.Goals as goal

pub returns : goal.returns
returns c =
    let root = c.args.root.now in
    let held = c.add-3.ensures _ _ (c.add-2.ensures _ _ (c.add.ensures _ _ c.new-mac.ensures)) in
    let n : length c.copy_from_slice.new.self ≡ 16 = search rules in
    let k : length c.end_with.new.text ≡ 16 = search rules in
    let head : take 10 c.copy_from_slice.new.self ≡ take 10 c.end.result = ap (take 10) c.copy_from_slice.ensures.after ∙ take-take 10 16 c.end.result (omega (arith)) in
    c.new.ensures ∙ id_of_parts (codes "key") 10 root c.to_be_bytes.result c.place_bytes-place.result c.end.result c.copy_from_slice.new.self c.end_with.new.text c.args.boot c.args.place
    (c.end.ensures _ _ held) c.to_be_bytes.ensures c.place_bytes-place.ensures n k head c.end_with.ensures
