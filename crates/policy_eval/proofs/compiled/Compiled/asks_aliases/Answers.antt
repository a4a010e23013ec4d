use Rattle.std.proofs.Common.{◌≡◌, true, false, codes, sym, ◌∙◌}
use Rattle.policy_eval.proofs.VerdictFacts.{goes_without, one_without}
use Rattle.policy_eval.proofs.compiled.Compiled.asks_aliases.Goals as goal

pub returns-clause-unasked : goal.returns-clause-unasked
returns-clause-unasked c = λ is.
    goes_without (codes "kms:ResourceAliases") c.args.self.now (λ some. let bad : false ≡ true = sym is ∙ c.names_aliases.ensures.1 some in cc)

pub returns-clause-one : goal.returns-clause-one
returns-clause-one c = λ is.
    one_without (codes "kms:ResourceAliases") c.args.self.now
    (goes_without (codes "kms:ResourceAliases") c.args.self.now (λ some. let bad : false ≡ true = sym is ∙ c.names_aliases.ensures.1 some in cc))
