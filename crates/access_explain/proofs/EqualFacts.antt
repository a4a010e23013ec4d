-- Findings compared.
use Rattle.std.proofs.Common.{◌≡◌}
use Rattle.kms_names.specs.Action.{action_number}
use Rattle.kms_names.specs.declared.actions.Action.{Action}
use Rattle.kms_names.proofs.ActionFacts.{same_number}
use Rattle.access_explain.specs.declared.findings.Finding.{Finding}
use Rattle.access_explain.specs.Tests.{SameMarks}

pub same_action_number : (a b : Action) → action_number a ≡ action_number b → a ≡ b
same_action_number = same_number

pub finding_is : (f g : Finding) → f.action ≡ g.action → f.resource ≡ g.resource → f.ground ≡ g.ground → SameMarks f g → f ≡ g
finding_is f g action resource ground marks = λ i. record {
  action = action i;
  resource = resource i;
  ground = ground i;
  key_marks = marks.0 i;
  identity_marks = marks.1 i;
  ceiling_marks = marks.2 i;
  grant_marks = marks.3 i;
}
