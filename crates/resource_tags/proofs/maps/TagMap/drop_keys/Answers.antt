use Rattle.std.proofs.Common.{◌∷◌, ◌≤◌, drop, length, suc, sym, subst, ap, ◌∙◌, add-one, le_trans}
use Rattle.std.proofs.Math.Seq.{drop-cons}
use Rattle.resource_tags.specs.Tags.{without_tags}
use Rattle.resource_tags.proofs.TagFacts.{shrinks}
use Rattle.resource_tags.proofs.maps.TagMap.drop_keys.Goals as goal

pub loop-key-preserved : goal.loop-key-preserved
loop-key-preserved c =
    let keys = c.args.keys.now in
    let i = c.loop-key.key-index in
    let key = c.key-item.result in
    let rest = drop (suc i) keys in (
      rw add-one
          (ap (λ tags. without_tags tags rest) c.in_ok-all-2.ensures
          ∙ ap (without_tags c.loop-key.all) (ap (λ k. k ∷ rest) c.key-item.is ∙ sym (drop-cons keys i key c.loop-key-test.true))
          ∙ c.loop-key.invariant.0),
      subst (λ tags. length tags ≤ 50) (sym c.in_ok-all-2.ensures) (le_trans (shrinks c.loop-key.all key) c.loop-key.invariant.1),
    )
