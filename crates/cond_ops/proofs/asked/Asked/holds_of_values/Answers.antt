use Rattle.std.proofs.Common.{ℕ, List, not, sym, subst}
use Rattle.std.specs.Prelude.{◌↔◌, IsTrue}
use Rattle.cond_ops.specs.declared.qualified.Qualifier.{Qualifier}
use Rattle.cond_ops.specs.Operator.{is_negated}
use Rattle.cond_ops.specs.Holds.{ValueMatches, HoldsOfValues}
use Rattle.cond_ops.specs.Matching.{SomeMatch, wanted_of}
use Rattle.cond_ops.specs.Asked.{condition_of}
use Rattle.cond_ops.proofs.MatchingFacts.{all_values}
use Rattle.cond_ops.proofs.asked.Asked.holds_of_values.Goals as goal

pub returns-in-AllValues : goal.returns-in-AllValues
returns-in-AllValues c =
    let condition = condition_of c.args.self.now in
    let found = c.args.found in
    let negated = is_negated condition.operator in
    subst (λ (q : Qualifier). (values : List (List ℕ)) → SomeMatch condition (wanted_of q negated) values found → IsTrue (not found) ↔ HoldsOfValues q negated (ValueMatches condition) values)
    (sym c.in-AllValues.is) (λ values some. all_values condition values found negated some)
