-- Where no form takes what stands behind the account, the text is no principal's.
use Rattle.std.proofs.Common.{rules}
use Rattle.kms_names.proofs.PrincipalFacts.{none_without_place, none_at_place}
use Rattle.kms_names.proofs.principals.read_principal.Goals as goal

pub returns-in_default-clause-bad_arn : goal.returns-in_default-clause-bad_arn
returns-in_default-clause-bad_arn c = λ _. none_without_place _ c.in_default.ensures

pub returns-clause-bad_arn : goal.returns-clause-bad_arn
returns-clause-bad_arn c = λ _. none_at_place _ _ _ c.in-Some.ensures (search rules, search rules, search rules)
