-- The members of an item of policies, one after another.
use Rattle.std.proofs.Common.{◌≡◌, ℕ, List, Option, Some, None, Result, Ok, Err, refl, codes}
use Rattle.kms_names.specs.declared.principals.Principal.{Principal}
use Rattle.policy_doc.specs.Paths.{member_path}
use Rattle.policy_doc.specs.declared.policies.Policy.{Policy}
use Rattle.authority.specs.declared.identities.Identity.{Identity}
use Rattle.kms_config.specs.declared.faults.ConfigFault.{ConfigFault}
use Rattle.kms_config.specs.declared.faults.ConfigFault.TheVariants.{At, NoMemory}
use Rattle.kms_config.specs.Answers.{Answers}
use Rattle.kms_config.specs.Identities.{identity_by}

module _ (path : List ℕ) (principal : Option Principal) (policies : Result (List Policy) (List ℕ)) (unknown : Option (List ℕ)) where
  module _ (answer : Result Identity ConfigFault) where
    pub no_principal : principal ≡ None → Answers (Err (member_path path (codes "principal"))) answer → Answers (identity_by path principal policies unknown) answer
    unfolding identity_by
    no_principal e h = rw e h

    pub has_other : (p : Principal) (ps : List Policy) (name : List ℕ) → principal ≡ Some p → policies ≡ Ok ps → unknown ≡ Some name
        → Answers (Err (member_path path name)) answer → Answers (identity_by path principal policies unknown) answer
    unfolding identity_by
    has_other p ps name e f u h = rw (e, f, u) h

  pub no_policies : (p : Principal) (why : ConfigFault) → principal ≡ Some p → Answers policies (Err why) → Answers {A = Identity} (identity_by path principal policies unknown) (Err why)
  unfolding identity_by
  no_policies p (At text) e h = rw (e, h) refl
  no_policies p NoMemory e h = tt

  pub all_there : (p : Principal) (ps : List Policy) → principal ≡ Some p → policies ≡ Ok ps → unknown ≡ None → identity_by path principal policies unknown ≡ Ok (record { principal = p; policies = ps })
  unfolding identity_by
  all_there p ps e f u = rw (e, f, u) refl
