use Rattle.std.proofs.Common.{◌≡◌, ◌∙◌, length, codes, rules, refl}
use Rattle.account_steps.proofs.KeyIds.{id_of_parts}
use Rattle.account_steps.proofs.ids.grant_id.Goals as goal

pub returns : goal.returns
returns c =
    let root = c.args.facts.now.root in
    let held = c.add-3.ensures _ _ (c.add-2.ensures _ _ (c.add.ensures _ _ c.new-mac.ensures)) in
    let n : length c.end-id.result ≡ 32 = search rules in
    let k : length c.end_with.new.text ≡ 32 = search rules in
    c.new.ensures ∙ id_of_parts (codes "grant") 26 root c.to_be_bytes.result c.place_bytes-place.result c.end-id.result c.end-id.result c.end_with.new.text c.args.facts.now.boot c.args.place
    (c.end-id.ensures _ _ held) c.to_be_bytes.ensures c.place_bytes-place.ensures n k refl c.end_with.ensures
