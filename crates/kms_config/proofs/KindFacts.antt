-- The policies of a configuration's principals are identity policies.
use Rattle.std.proofs.Common.{◌≡◌, ◌+◌, ◌++◌, ℕ, List, [], ◌∷◌, Bool, true, false, cond, Option, Some, None, Result, Ok, Err, refl, subst, codes, option_and_then}
use Rattle.std.specs.Prelude.{All, IfOk, find}
use Rattle.std.specs.Str.{bytes_eq}
use Rattle.std.proofs.lemmas.List.Elements.{All-nil, All-head, All-tail, All-push}
use Rattle.serde_json.specs.Data.{Data, Items, no_items, item, Members}
use Rattle.serde_json.specs.Find.{get}
use Rattle.kms_names.specs.Principal.{principal_text}
use Rattle.kms_names.specs.declared.principals.Principal.{Principal}
use Rattle.kms_names.specs.declared.principals.Principal.TheVariants.{Root, User, Role}
use Rattle.policy_doc.specs.Documents.{first_fault}
use Rattle.policy_doc.specs.Names.{first_unknown}
use Rattle.policy_doc.specs.Paths.{member_path, item_path}
use Rattle.policy_doc.specs.declared.faults.PolicyFault.{PolicyFault}
use Rattle.policy_doc.specs.declared.policies.Policy.{Policy}
use Rattle.policy_doc.specs.declared.policies.PolicyKind.TheVariants as kind
use Rattle.authority.specs.declared.identities.Identity.{Identity}
use Rattle.authority.specs.Setting.{policies_or_none, policies_of, callers_policies}
use Rattle.authority.specs.Allowed.{AreIdentityPolicies}
use Rattle.sigv4_check.specs.declared.credentials.Credential.{Credential}
use Rattle.kms_config.specs.declared.faults.ConfigFault.{ConfigFault}
use Rattle.kms_config.specs.declared.config.Basics.{Basics}
use Rattle.kms_config.specs.declared.config.Config.{Config}
use Rattle.kms_config.specs.Answers.{Answers, ◌>>=◌, at}
use Rattle.kms_config.specs.Lists.{if_any, items_within, items_from}
use Rattle.kms_config.specs.Members.{members_in}
use Rattle.kms_config.specs.Identities.{document_by, document_in, next_document, documents_in, ceiling_in, identity_names, new_principal, policies_in, identity_by, identity_of, identity_in, next_identity, identities_in}
use Rattle.kms_config.specs.Config.{config_names, pointer, basics_in, credentials_at, identities_at, ceiling_at, lists_by, lists_in, config_of, config_in}
use Rattle.kms_config.specs.Laws.{ConfiguredPoliciesAreOfIdentities}

-- ---- one step after another

-- what the rest gives is so, whatever comes first
whatever : {A B : Type 0} (first : Result A (List ℕ)) (then : A → Result B (List ℕ)) (Q : B → Type 0) → ((x : A) → IfOk (then x) Q) → IfOk (first >>= then) Q
whatever (Ok x) then Q rest = rest x
whatever (Err path) then Q rest = tt

-- what the rest gives is so, by what comes first
by_first : {A B : Type 0} (first : Result A (List ℕ)) (then : A → Result B (List ℕ)) (P : A → Type 0) (Q : B → Type 0) → IfOk first P → ((x : A) → P x → IfOk (then x) Q) → IfOk (first >>= then) Q
by_first (Ok x) then P Q is rest = rest x is
by_first (Err path) then P Q is rest = tt

-- what each item keeps is so at the end
module _ {A : Type 0} (P : A → Type 0) (next : A → ℕ → Data → Result A (List ℕ)) (keeps : (had : A) (index : ℕ) (value : Data) → P had → IfOk (next had index value) P) where
  all_keep : (values : Items) (had : A) (index : ℕ) → P had → IfOk (items_from next had index values) P
  all_keep no_items had index is = is
  all_keep (item value values) had index is =
      by_first (next had index value) (λ new. items_from next new (index + 1) values) P P (keeps had index value is) (λ new now. all_keep values new (index + 1) now)

-- ---- documents

abbrev IsIdentityPolicy : Policy → Type 0
IsIdentityPolicy policy = policy.kind ≡ kind.Identity

kind_by : (path : List ℕ) (value : Data) (fault : Option PolicyFault) → IfOk (document_by path value fault) IsIdentityPolicy
kind_by path value None = refl
kind_by path value (Some why) = tt

document_kind : (path : List ℕ) (value : Data) → IfOk (document_in path value) IsIdentityPolicy
unfolding document_in
document_kind path value = kind_by path value (first_fault kind.Identity value)

next_document_kind : (path : List ℕ) (policies : List Policy) (index : ℕ) (value : Data) → AreIdentityPolicies policies → IfOk (next_document path policies index value) AreIdentityPolicies
next_document_kind path policies index value are =
    by_first (document_in (item_path path index) value) (λ policy. Ok (policies ++ policy ∷ [])) IsIdentityPolicy AreIdentityPolicies
    (document_kind (item_path path index) value) (λ policy is. All-push IsIdentityPolicy policies policy are is)

documents_kind : (path : List ℕ) (value : Option Data) → IfOk (documents_in path value) AreIdentityPolicies
documents_kind path value =
    whatever (at path (items_within 10 value)) (items_from (next_document path) [] 0) AreIdentityPolicies
    (λ values. all_keep AreIdentityPolicies (next_document path) (next_document_kind path) values [] 0 (All-nil IsIdentityPolicy))

policies_kind : (path : List ℕ) (value : Data) → IfOk (policies_in path value) AreIdentityPolicies
unfolding policies_in
policies_kind path value = documents_kind (member_path path (codes "documents")) (get (codes "documents") value)

-- ---- principals

abbrev HasIdentityPolicies : Identity → Type 0
HasIdentityPolicies identity = AreIdentityPolicies identity.policies

abbrev HaveIdentityPolicies : List Identity → Type 0
HaveIdentityPolicies identities = All HasIdentityPolicies identities

identity_by_kind : (path : List ℕ) (principal : Option Principal) (policies : Result (List Policy) (List ℕ)) (unknown : Option (List ℕ)) → IfOk policies AreIdentityPolicies
    → IfOk (identity_by path principal policies unknown) HasIdentityPolicies
unfolding identity_by
identity_by_kind path None policies unknown are = tt
identity_by_kind path (Some principal) (Err why) unknown are = tt
identity_by_kind path (Some principal) (Ok policies) (Some name) are = tt
identity_by_kind path (Some principal) (Ok policies) None are = are

module _ (account : List ℕ) (before : List Identity) (path : List ℕ) (value : Data) where
  identity_of_kind : (members : Members) → IfOk (identity_of account before path value members) HasIdentityPolicies
  unfolding identity_of
  identity_of_kind members =
      identity_by_kind path (new_principal account before value) (policies_in path value) (first_unknown identity_names members) (policies_kind path value)

  identity_kind : IfOk (identity_in account before path value) HasIdentityPolicies
  identity_kind = whatever (members_in path value) (identity_of account before path value) HasIdentityPolicies identity_of_kind

next_identity_kind : (account path : List ℕ) (identities : List Identity) (index : ℕ) (value : Data) → HaveIdentityPolicies identities
    → IfOk (next_identity account path identities index value) HaveIdentityPolicies
next_identity_kind account path identities index value have =
    by_first (identity_in account identities (item_path path index) value) (λ identity. Ok (identities ++ identity ∷ [])) HasIdentityPolicies HaveIdentityPolicies
    (identity_kind account identities (item_path path index) value) (λ identity has. All-push HasIdentityPolicies identities identity have has)

identities_kind : (account path : List ℕ) (value : Option Data) → IfOk (identities_in account path value) HaveIdentityPolicies
identities_kind account path value =
    whatever (at path (items_within 1000 value)) (items_from (next_identity account path) [] 0) HaveIdentityPolicies
    (λ values. all_keep HaveIdentityPolicies (next_identity account path) (next_identity_kind account path) values [] 0 (All-nil HasIdentityPolicies))

-- ---- the configuration

record ConfigHas (config : Config) : Type 0 where
  identities : HaveIdentityPolicies config.facts.identities
  ceiling : AreIdentityPolicies config.facts.ceiling

ceiling_kind : (path : List ℕ) (value : Option Data) → IfOk (ceiling_in path value) AreIdentityPolicies
ceiling_kind path None = All-nil IsIdentityPolicy
ceiling_kind path (Some value) =
    whatever (at path (option_and_then if_any (items_within 10 (Some value)))) (items_from (next_document path) [] 0) AreIdentityPolicies
    (λ values. all_keep AreIdentityPolicies (next_document path) (next_document_kind path) values [] 0 (All-nil IsIdentityPolicy))

lists_by_kind : (basics : Basics) (credentials : Result (List Credential) (List ℕ)) (identities : Result (List Identity) (List ℕ)) (ceiling : Result (List Policy) (List ℕ)) (unknown : Option (List ℕ))
    → IfOk identities HaveIdentityPolicies → IfOk ceiling AreIdentityPolicies → IfOk (lists_by basics credentials identities ceiling unknown) ConfigHas
unfolding lists_by
lists_by_kind basics (Err why) identities ceiling unknown have are = tt
lists_by_kind basics (Ok credentials) (Err why) ceiling unknown have are = tt
lists_by_kind basics (Ok credentials) (Ok identities) (Err why) unknown have are = tt
lists_by_kind basics (Ok credentials) (Ok identities) (Ok ceiling) (Some name) have are = tt
lists_by_kind basics (Ok credentials) (Ok identities) (Ok ceiling) None have are = record { identities = have; ceiling = are }

lists_kind : (value : Data) (members : Members) (basics : Basics) → IfOk (lists_in value members basics) ConfigHas
unfolding lists_in
lists_kind value members basics =
    lists_by_kind basics (credentials_at basics.account value) (identities_at basics.account value) (ceiling_at value) (first_unknown config_names members)
    (identities_kind basics.account (pointer (codes "policies")) (get (codes "policies") value)) (ceiling_kind (pointer (codes "ceiling")) (get (codes "ceiling") value))

config_kind : (value : Data) → IfOk (config_in value) ConfigHas
config_kind value =
    whatever (members_in (codes "/") value) (config_of value) ConfigHas (λ members. whatever (basics_in value) (lists_in value members) ConfigHas (λ basics. lists_kind value members basics))

-- ---- callers

-- what is found for a caller are the policies of one of them, or none
found_kind : (test : Identity → Bool) (identities : List Identity) → HaveIdentityPolicies identities → AreIdentityPolicies (policies_or_none (find test identities))
found_kind test [] have = All-nil IsIdentityPolicy
found_kind test (first ∷ identities) have = by_test (test first) (found_kind test identities (All-tail HasIdentityPolicies first identities have))
  where
    by_test : (b : Bool) → AreIdentityPolicies (policies_or_none (find test identities)) → AreIdentityPolicies (policies_or_none (cond b (Some first) (find test identities)))
    by_test true later = All-head HasIdentityPolicies first identities have
    by_test false later = later

of_principal : (identities : List Identity) → HaveIdentityPolicies identities → (principal : Principal) → AreIdentityPolicies (policies_of identities principal)
unfolding policies_of
of_principal identities have principal = found_kind (λ (identity : Identity). bytes_eq (principal_text identity.principal) (principal_text principal)) identities have

of_caller : (identities : List Identity) → HaveIdentityPolicies identities → (caller : Principal) → AreIdentityPolicies (callers_policies identities caller)
of_caller identities have (Root account) = All-nil IsIdentityPolicy
of_caller identities have (User account name) = of_principal identities have (User account name)
of_caller identities have (Role account name) = of_principal identities have (Role account name)

-- what a configuration that is answered holds for a caller, and as the account's ceiling
pub callers_kind : (value : Data) (answer : Result Config ConfigFault) → Answers (config_in value) answer
    → IfOk answer (λ (config : Config). (caller : Principal) → AreIdentityPolicies (callers_policies config.facts.identities caller))
callers_kind value (Ok config) is =
    let have : ConfigHas config = subst (λ (r : Result Config (List ℕ)). IfOk r ConfigHas) is (config_kind value) in
    of_caller config.facts.identities have.identities
callers_kind value (Err why) is = tt

pub documents_of_ceiling : (value : Data) (answer : Result Config ConfigFault) → Answers (config_in value) answer → IfOk answer (λ (config : Config). AreIdentityPolicies config.facts.ceiling)
documents_of_ceiling value (Ok config) is =
    let have : ConfigHas config = subst (λ (r : Result Config (List ℕ)). IfOk r ConfigHas) is (config_kind value) in
    have.ceiling
documents_of_ceiling value (Err why) is = tt

-- and so of every configuration
pub configured_kind : ConfiguredPoliciesAreOfIdentities
configured_kind bytes config is =
    let have : ConfigHas config = subst (λ (r : Result Config (List ℕ)). IfOk r ConfigHas) is.is (config_kind is.value) in
    (of_caller config.facts.identities have.identities, have.ceiling)
