use Rattle.std.proofs.Common.{◌≡◌}
use Rattle.std.specs.Prelude.{All}
use Rattle.kms_names.specs.Principal.{account_of}
use Rattle.sigv4_check.specs.declared.credentials.Credential.{Credential}
use Rattle.worked_cases.proofs.callers.credentials_of.Given as goal

abbrev pub invariant-loop-line : goal.invariant-loop-line
invariant-loop-line l = All (λ (key : Credential). account_of key.principal ≡ l.account) l.all.items
