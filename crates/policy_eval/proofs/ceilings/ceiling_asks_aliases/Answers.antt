use Rattle.std.proofs.Common.{◌≡◌, true, false, codes, sym, ◌∙◌}
use Rattle.policy_eval.proofs.CeilingFacts.{ceiling_without}
use Rattle.policy_eval.proofs.ceilings.ceiling_asks_aliases.Goals as goal

pub returns-clause-unasked : goal.returns-clause-unasked
returns-clause-unasked c = λ none.
    ceiling_without (codes "kms:ResourceAliases") c.args.documents.now (λ some. let bad : false ≡ true = sym none ∙ c.some_asks_aliases.ensures.1 some in cc)
