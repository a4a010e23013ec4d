-- What came of a server that keeps nothing.
use Rattle.std.proofs.Common.{◌≡◌, ℕ, List, Option, subst}
use Rattle.account_steps.specs.History.{Entry}
use Rattle.account_core.specs.Account.{Account}
use Rattle.session_front.specs.declared.trust.Trust.{Trust}
use Rattle.kms_server.specs.declared.crew.Kept.{Kept}
use Rattle.kms_server.specs.declared.server.Served.{Served}
use Rattle.kms_server.specs.declared.server.Outcome.{Outcome}
use Rattle.kms_server.specs.declared.server.Outcome.TheVariants as outcome
use Rattle.kms_server.specs.Server.{Wanted, Surroundings, Fulfils, ServesDoor, FindsShut, OpensNothing}
use Rattle.std.proofs.Common.{Bool, false}

module _ (account : Account) (trust : Trust) (wanted : Wanted) (old new : Surroundings) (history : List (Entry × ℕ)) (result : Outcome) (done : Fulfils false account trust wanted history result old new) where
  pub done_served : (served : Served) (kept : Kept) → result ≡ outcome.Served served kept → ServesDoor false account trust wanted history served kept old new
  done_served served kept is = subst (λ (o : Outcome). Fulfils false account trust wanted history o old new) is done

  pub done_shut : result ≡ outcome.Shut → FindsShut wanted old new
  done_shut is = subst (λ (o : Outcome). Fulfils false account trust wanted history o old new) is done

  pub done_nothing : result ≡ outcome.NoMemory → OpensNothing wanted old new
  done_nothing is = subst (λ (o : Outcome). Fulfils false account trust wanted history o old new) is done
