use Rattle.std.proofs.Common.{codes, subst}
use Rattle.std.specs.Prelude.{◌↔◌, IsTrue}
use Rattle.policy_doc.specs.declared.policies.Policy.{Policy}
use Rattle.policy_eval.specs.Asking.{AsksFor}
use Rattle.policy_eval.proofs.compiled.Compiled.names_aliases.Goals as goal

pub returns : goal.returns
returns c =
    let kept = c.self.inside in
    subst (λ (p : Policy). IsTrue kept.asks_aliases ↔ AsksFor (codes "kms:ResourceAliases") p) c.self.view_is c.self.invariant
