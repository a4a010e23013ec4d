use Rattle.std.proofs.Common.{◌∷◌, drop, suc, sym, ap, ap₂, ◌∙◌, add-one}
use Rattle.std.proofs.Math.Seq.{drop-cons}
use Rattle.persist_map.specs.Pairs.{with_pair}
use Rattle.resource_tags.specs.Tags.{by_bytes, with_tags}
use Rattle.tag_order.proofs.order.by_keys.Goals as goal

pub loop-tag-preserved : goal.loop-tag-preserved
loop-tag-preserved c =
    let tags = c.args.tags.now in
    let i = c.loop-tag.tag-index in
    let tag = c.tag-item.result in
    let rest = drop (suc i) tags in
    rw add-one
    (ap (λ all. with_tags all rest) (c.in_ok-all.ensures ∙ ap₂ (λ key value. with_pair by_bytes c.loop-tag.all key value) c.in_ok-copy.ensures c.in_ok-copy-2.ensures)
    ∙ ap (with_tags c.loop-tag.all) (ap (λ t. t ∷ rest) c.tag-item.is ∙ sym (drop-cons tags i tag c.loop-tag-test.true))
    ∙ c.loop-tag.invariant)
