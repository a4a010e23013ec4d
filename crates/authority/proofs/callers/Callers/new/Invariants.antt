use Rattle.std.proofs.Common.{◌≡◌, ℕ, List, take}
use Rattle.std.specs.Prelude.{option_map}
use Rattle.authority.specs.declared.identities.Identity.{Identity}
use Rattle.authority.specs.Setting.{identity_at}
use Rattle.authority.specs.Callers.{kept_at}
use Rattle.authority.proofs.callers.Callers.new.Given as goal

abbrev pub invariant-loop-identity : goal.invariant-loop-identity
invariant-loop-identity l =
    (arn : List ℕ) → kept_at l.by_arn arn ≡ option_map (λ (identity : Identity). identity.policies) (identity_at (take l.identity-index l.identity-items) arn)
