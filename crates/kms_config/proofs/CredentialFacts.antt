-- A credential's members, one after another.
use Rattle.std.proofs.Common.{◌≡◌, ℕ, List, Option, Some, None, Result, Ok, Err, refl, codes}
use Rattle.kms_names.specs.declared.principals.Principal.{Principal}
use Rattle.policy_doc.specs.Paths.{member_path}
use Rattle.sigv4_check.specs.declared.credentials.Credential.{Credential}
use Rattle.kms_config.specs.declared.faults.ConfigFault.{ConfigFault}
use Rattle.kms_config.specs.Answers.{Answers}
use Rattle.kms_config.specs.Credentials.{credential_by}

module _ (path : List ℕ) (id secret : Option (List ℕ)) (principal : Option Principal) (unknown : Option (List ℕ)) (answer : Result Credential ConfigFault) where
  abbrev Wanted : Type 0
  Wanted = Answers (credential_by path id secret principal unknown) answer

  pub no_id : id ≡ None → Answers (Err (member_path path (codes "accessKeyId"))) answer → Wanted
  unfolding credential_by
  no_id e h = rw e h

  pub no_secret : (x : List ℕ) → id ≡ Some x → secret ≡ None → Answers (Err (member_path path (codes "secret"))) answer → Wanted
  unfolding credential_by
  no_secret x e f h = rw (e, f) h

  pub no_principal : (x y : List ℕ) → id ≡ Some x → secret ≡ Some y → principal ≡ None → Answers (Err (member_path path (codes "principal"))) answer → Wanted
  unfolding credential_by
  no_principal x y e f g h = rw (e, f, g) h

  pub has_other : (x y : List ℕ) (p : Principal) (name : List ℕ) → id ≡ Some x → secret ≡ Some y → principal ≡ Some p → unknown ≡ Some name
      → Answers (Err (member_path path name)) answer → Wanted
  unfolding credential_by
  has_other x y p name e f g u h = rw (e, f, g, u) h

pub all_there : (path : List ℕ) (id secret : Option (List ℕ)) (principal : Option Principal) (unknown : Option (List ℕ)) (x y : List ℕ) (p : Principal)
    → id ≡ Some x → secret ≡ Some y → principal ≡ Some p → unknown ≡ None → credential_by path id secret principal unknown ≡ Ok (record { id = x; secret = y; principal = p })
unfolding credential_by
all_there path id secret principal unknown x y p e f g u = rw (e, f, g, u) refl
