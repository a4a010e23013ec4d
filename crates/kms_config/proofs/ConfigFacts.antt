-- A configuration's members, one after another.
use Rattle.std.proofs.Common.{◌≡◌, ◌≤◌, subst, length, ℕ, List, [], Option, Some, None, Result, Ok, Err, refl, codes}
use Rattle.std.specs.Prelude.{IfErr, MatchOption}
use Rattle.serde_json.specs.View.{view}
use Rattle.serde_json.specs.declared.value.Value.{Value}
use Rattle.serde_json.specs.Data.{Data}
use Rattle.policy_doc.specs.Paths.{member_path}
use Rattle.policy_doc.specs.Reading.{Reads, ReadsNothing}
use Rattle.policy_doc.specs.declared.policies.Policy.{Policy}
use Rattle.authority.specs.declared.identities.Identity.{Identity}
use Rattle.sigv4_check.specs.declared.credentials.Credential.{Credential}
use Rattle.kms_config.specs.declared.faults.ConfigFault.{ConfigFault}
use Rattle.kms_config.specs.declared.faults.ConfigFault.TheVariants.{At, NoMemory}
use Rattle.kms_config.specs.declared.config.Basics.{Basics}
use Rattle.kms_config.specs.declared.config.Config.{Config}
use Rattle.kms_config.specs.Answers.{Answers}
use Rattle.kms_config.specs.Config.{pointer, basics_by, lists_by, config_in, IsRefusedAt, at_fault, IsFaultOf}

module _ (account region root : Option (List ℕ)) (boot : Option ℕ) where
  module _ (answer : Result Basics ConfigFault) where
    abbrev Wanted : Type 0
    Wanted = Answers (basics_by account region root boot) answer

    pub no_account : account ≡ None → Answers (Err (pointer (codes "account"))) answer → Wanted
    unfolding basics_by
    no_account e h = rw e h

    pub no_region : (a : List ℕ) → account ≡ Some a → region ≡ None → Answers (Err (pointer (codes "region"))) answer → Wanted
    unfolding basics_by
    no_region a e f h = rw (e, f) h

    pub no_root : (a r : List ℕ) → account ≡ Some a → region ≡ Some r → root ≡ None → Answers (Err (pointer (codes "root"))) answer → Wanted
    unfolding basics_by
    no_root a r e f g h = rw (e, f, g) h

    pub no_boot : (a r s : List ℕ) → account ≡ Some a → region ≡ Some r → root ≡ Some s → boot ≡ None → Answers (Err (pointer (codes "boot"))) answer → Wanted
    unfolding basics_by
    no_boot a r s e f g k h = rw (e, f, g, k) h

  pub all_basics : (a r s : List ℕ) (n : ℕ) → account ≡ Some a → region ≡ Some r → root ≡ Some s → boot ≡ Some n
      → basics_by account region root boot ≡ Ok (record { account = a; region = r; root = s; boot = n })
  unfolding basics_by
  all_basics a r s n e f g k = rw (e, f, g, k) refl

module _ (basics : Basics) (credentials : Result (List Credential) (List ℕ)) (identities : Result (List Identity) (List ℕ)) (ceiling : Result (List Policy) (List ℕ)) (unknown : Option (List ℕ)) where
  pub no_credentials : (why : ConfigFault) → Answers credentials (Err why) → Answers {A = Config} (lists_by basics credentials identities ceiling unknown) (Err why)
  unfolding lists_by
  no_credentials (At text) h = rw h refl
  no_credentials NoMemory h = tt

  pub no_identities : (cs : List Credential) (why : ConfigFault) → credentials ≡ Ok cs → Answers identities (Err why) → Answers {A = Config} (lists_by basics credentials identities ceiling unknown) (Err why)
  unfolding lists_by
  no_identities cs (At text) e h = rw (e, h) refl
  no_identities cs NoMemory e h = tt

  pub no_ceiling : (cs : List Credential) (is : List Identity) (why : ConfigFault) → credentials ≡ Ok cs → identities ≡ Ok is → Answers ceiling (Err why)
      → Answers {A = Config} (lists_by basics credentials identities ceiling unknown) (Err why)
  unfolding lists_by
  no_ceiling cs is (At text) e f h = rw (e, f, h) refl
  no_ceiling cs is NoMemory e f h = tt

  pub has_other : (cs : List Credential) (is : List Identity) (ds : List Policy) (name : List ℕ) (answer : Result Config ConfigFault) → credentials ≡ Ok cs → identities ≡ Ok is
      → ceiling ≡ Ok ds → unknown ≡ Some name
      → Answers (Err (member_path [] name)) answer → Answers (lists_by basics credentials identities ceiling unknown) answer
  unfolding lists_by
  has_other cs is ds name answer e f g u h = rw (e, f, g, u) h

  pub all_lists : (cs : List Credential) (is : List Identity) (ds : List Policy) → credentials ≡ Ok cs → identities ≡ Ok is → ceiling ≡ Ok ds → unknown ≡ None
      → lists_by basics credentials identities ceiling unknown ≡ Ok (record { facts = record { account = basics.account; region = basics.region; root = basics.root; boot = basics.boot; identities = is; ceiling = ds }; credentials = cs })
  unfolding lists_by
  all_lists cs is ds e f g u = rw (e, f, g, u) refl

-- ---- the faults of bytes

module _ (bytes : List ℕ) where
  pub refused_at : (path : List ℕ) (answer : Result Config ConfigFault) → IsRefusedAt bytes path → Answers {A = Config} (Err path) answer → IfErr answer (IsFaultOf bytes)
  refused_at path (Ok config) is h = tt
  refused_at path (Err (At text)) is h = let same : path ≡ text = cc in subst (IsRefusedAt bytes) same is
  refused_at path (Err NoMemory) is h = tt

  pub value_refused : (value : Data) (answer : Result Config ConfigFault) → length bytes ≤ 4194304 → Reads bytes value → Answers (config_in value) answer → IfErr answer (IsFaultOf bytes)
  value_refused value (Ok config) few reads h = tt
  value_refused value (Err (At text)) few reads h = at_fault value few reads h
  value_refused value (Err NoMemory) few reads h = tt

  pub some_read : (o : Option Value) (value : Value) → o ≡ Some value → MatchOption o (ReadsNothing bytes) (λ v. Reads bytes (view v)) → Reads bytes (view value)
  some_read (Some v) value e h = let same : v ≡ value = cc in subst (λ w. Reads bytes (view w)) same h
  some_read None value e h = cc

  pub none_read : (o : Option Value) → o ≡ None → MatchOption o (ReadsNothing bytes) (λ v. Reads bytes (view v)) → ReadsNothing bytes
  none_read (Some v) e h = cc
  none_read None e h = h
