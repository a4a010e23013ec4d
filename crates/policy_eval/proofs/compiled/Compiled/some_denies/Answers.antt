use Rattle.std.proofs.Common.{subst}
use Rattle.std.specs.Prelude.{◌↔◌, IsTrue}
use Rattle.policy_doc.specs.declared.policies.Policy.{Policy}
use Rattle.policy_eval.specs.Verdict.{SomeDenies}
use Rattle.policy_eval.proofs.HitFacts.{denies_caller}
use Rattle.policy_eval.proofs.compiled.Compiled.some_denies.Goals as goal

pub returns : goal.returns
returns c =
    subst (λ (p : Policy). IsTrue c.hits.result ↔ SomeDenies p.statements c.args.facts.now) c.self.view_is
    (denies_caller c.self.inside.statements c.args.facts.now c.hits.result c.hits.ensures)
