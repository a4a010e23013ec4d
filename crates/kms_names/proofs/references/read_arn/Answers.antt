-- What the parts of an ARN and its resource say of the whole.
use Rattle.std.proofs.Common.{rules, inr, sym, ◌∙◌}
use Rattle.std.proofs.lemmas.Bool.{false≢true}
use Rattle.kms_names.proofs.ReferenceFacts.{no_arn_of_other_resource, target_is_resource}
use Rattle.kms_names.proofs.references.read_arn.Goals as goal

pub returns-in_default-clause-bad_arn : goal.returns-in_default-clause-bad_arn
returns-in_default-clause-bad_arn c = λ _ (r, a, s, at, resource). c.in_default.ensures r a s at

pub returns-in_default-read_target-clause-bad_arn : goal.returns-in_default-read_target-clause-bad_arn
returns-in_default-read_target-clause-bad_arn c = λ _. no_arn_of_other_resource _ _ _ _ c.in-Some.ensures c.in_default-read_target.ensures

pub returns-in-Key-clause-ok : goal.returns-in-Key-clause-ok
returns-in-Key-clause-ok c =
    let arn = c.in-Some.ensures in
    let here = c.is_of.ensures.0 (search rules) in
    let key = rw c.in-Key.is at c.in-Some-read_target.ensures in
    inr (c.in-Some.arn.resource.now, rw (here.0, here.1) at arn, key)

pub returns-then-not-is_of-clause-ok : goal.returns-then-not-is_of-clause-ok
returns-then-not-is_of-clause-ok c = (
  c.in-Some.arn.region.now,
  c.in-Some.arn.account,
  c.in-Some.arn.resource.now,
  c.in-Some.ensures,
  target_is_resource _ _ c.in-Some-read_target.ensures,
  λ here. false≢true (sym c.if-not-is_of.true ∙ c.is_of.ensures.1 here),
)
