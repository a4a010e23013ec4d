use Rattle.std.proofs.Common.{◌∷◌, drop, suc, sym, ap, ◌∙◌, add-one}
use Rattle.std.proofs.Math.Seq.{drop-cons}
use Rattle.std.proofs.lemmas.List.{drop_all}
use Rattle.alias_map.specs.Aliases.{without_keys}
use Rattle.alias_map.proofs.KeyFacts.{without_key_first, without_no_keys}
use Rattle.alias_map.proofs.maps.AliasMap.without_keys.Goals as goal

pub loop-key-preserved : goal.loop-key-preserved
loop-key-preserved c =
    let keys = c.args.keys.now in
    let i = c.loop-key.key-index in
    let key = c.key-item.result in
    let rest = drop (suc i) keys in
    rw add-one
    (ap (λ map. without_keys map rest) c.in_ok-map-2.ensures
    ∙ without_key_first c.loop-key.map key rest
    ∙ ap (without_keys c.loop-key.map) (ap (λ k. k ∷ rest) c.key-item.is ∙ sym (drop-cons keys i key c.loop-key-test.true))
    ∙ c.loop-key.invariant)

pub returns : goal.returns
returns c =
    sym (without_no_keys c.loop-key.map)
    ∙ ap (without_keys c.loop-key.map) (sym (drop_all c.loop-key.key-index c.args.keys.now c.loop-key-test.false))
    ∙ c.loop-key.invariant
