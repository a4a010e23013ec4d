use Rattle.std.proofs.Common.{[], ◌∷◌, ◌++◌, ◌∙◌, ap, sym, take}
use Rattle.std.proofs.lemmas.List.{take_more}
use Rattle.grant_table.specs.Grants.{without_keys}
use Rattle.grant_table.proofs.KeyFacts.{no_keys, one_key_more}
use Rattle.grant_table.proofs.tables.GrantTable.without_keys.Goals as goal

pub loop-key-init : goal.loop-key-init
loop-key-init c = c.in_ok-table.ensures ∙ no_keys c.args.self.now

pub loop-key-preserved : goal.loop-key-preserved
loop-key-preserved c =
    let key = c.key-item.result in
    c.in_ok-table-2.ensures ∙ ap (λ rows. without_keys rows (key ∷ [])) c.loop-key.invariant
    ∙ one_key_more c.args.self.now (take c.loop-key.key-index c.args.keys.now) key ∙ ap (without_keys c.args.self.now)
    (sym (take_more c.args.keys.now c.loop-key.key-index key c.loop-key-test.true ∙ ap (λ k. take c.loop-key.key-index c.args.keys.now ++ (k ∷ [])) (sym c.key-item.is)))
