use Rattle.std.proofs.Common.{◌∙◌, ap}
use Rattle.account_steps.specs.Steps.{reference_of}
use Rattle.account_steps.specs.declared.facts.RealmFacts.{RealmFacts}
use Rattle.account_steps.proofs.Referring.{key_found}
use Rattle.account_steps.proofs.checks.key_of.Goals as goal

pub returns : goal.returns
returns c =
    key_found c.args.view.now c.args.reference.now c.in_ok-read.read
    (c.in_ok-read.ensures ∙ ap (λ (facts : RealmFacts). reference_of facts c.args.reference.now) c.facts.ensures) c.key_named.result c.key_named.ensures
