-- Where nobody was served, nothing is said of what is kept.
use Rattle.std.proofs.Common.{ℕ, List, Bool, Option}
use Rattle.account_steps.specs.History.{Entry}
use Rattle.kms_server.specs.declared.server.Outcome.{Outcome}
use Rattle.kms_server.specs.declared.server.Outcome.TheVariants as outcome
use Rattle.kms_server.specs.Server.{ServesNobody, KeepsServed}

pub unserved : {K : Type 0} (keeping : Bool) (tells : K → List Entry → Type 0) (is_open : K → Bool) (moment : K → ℕ) (left_since : K → ℕ → List ℕ → Type 0) (reads : List ℕ → List Entry → Type 0) (started loaded : ℕ)
    (history : List (Entry × ℕ)) (result : Outcome) (given : Option K) → ServesNobody result → KeepsServed keeping tells is_open moment left_since reads started loaded history result given
unserved keeping tells is_open moment left_since reads started loaded history (outcome.Served served account) given nobody = absurd nobody
unserved keeping tells is_open moment left_since reads started loaded history outcome.Shut given nobody = tt
unserved keeping tells is_open moment left_since reads started loaded history outcome.NoMemory given nobody = tt
