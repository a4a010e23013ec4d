use Rattle.std.proofs.Common.{ℕ, List, [], ◌∷◌, ◌++◌, codes, Option, ap, ◌∙◌}
use Rattle.authority.specs.Setting.{GrantSaid}
use Rattle.authority.specs.Facts.{several, text_facts, said_facts}
use Rattle.authority.proofs.FactFacts.{four}
use Rattle.authority.proofs.grants.put_said.Goals as goal

pub returns : goal.returns
returns c =
    let old = c.args.facts.now.items in
    let named = c.put_retiring.new.facts.items in
    four old c.put_values.new.facts.items c.put_principal.new.facts.items named c.put_given.new.facts.items _ _ _ _
    (c.in_ok-put_values.ensures ∙ ap (λ (names : List (List ℕ)). old ++ several (codes "kms:GrantOperations") names ∷ []) c.in_ok-operations.ensures)
    c.in_ok-put_principal.ensures c.in_ok-put_retiring.ensures
    (c.in_ok-put_given.ensures ∙ ap (λ (kind : Option (List ℕ)). named ++ text_facts (codes "kms:GrantConstraintType") kind) c.constraint_type.ensures)
    ∙ ap (λ (g : GrantSaid). old ++ said_facts g) c.grant.view_is
