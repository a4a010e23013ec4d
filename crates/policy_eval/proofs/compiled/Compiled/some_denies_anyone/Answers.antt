use Rattle.std.proofs.Common.{subst}
use Rattle.std.specs.Prelude.{◌↔◌, IsTrue, Any}
use Rattle.policy_doc.specs.declared.policies.Policy.{Policy}
use Rattle.policy_eval.specs.Verdict.{IsDeny}
use Rattle.policy_eval.proofs.HitFacts.{denies_anyone}
use Rattle.policy_eval.proofs.compiled.Compiled.some_denies_anyone.Goals as goal

pub returns : goal.returns
returns c =
    subst (λ (p : Policy). IsTrue c.hits.result ↔ Any (λ s. IsDeny s c.args.facts.now) p.statements) c.self.view_is
    (denies_anyone c.self.inside.statements c.args.facts.now c.hits.result c.hits.ensures)
