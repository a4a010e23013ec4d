-- Who asks, when and where, what a request says of itself, and which policies there are of principals.
use Rattle.std.specs.Prelude.{ℕ, Bool, true, false, List, [], map, filter, find, Option, Some, None}
use Rattle.std.specs.Str.{bytes_eq}
use Rattle.kms_names.specs.Principal.{principal_text}
use Rattle.kms_names.specs.declared.actions.Action.{Action}
use Rattle.kms_names.specs.declared.operations.GrantOps.{GrantOps}
use Rattle.kms_names.specs.declared.principals.Principal.{Principal}
use Rattle.kms_names.specs.declared.principals.Principal.TheVariants.{Root, User, Role}
use Rattle.enc_context.specs.declared.pairs.Pair.{Pair}
use Rattle.alias_map.specs.Aliases.{names_key}
use Rattle.alias_map.specs.declared.rows.AliasRow.{AliasRow}
use Rattle.grant_table.specs.declared.constraints.Constraint.{Constraint}
use Rattle.policy_doc.specs.declared.policies.Policy.{Policy}
use Rattle.resource_tags.specs.Tags.{Tags}
use Rattle.resource_tags.specs.declared.tags.Tag.{Tag}
use Rattle.authority.specs.declared.identities.Identity.{Identity}

-- the caller, the moment in seconds since 1970, the region of the service, the caller's own policies, and the documents of the
-- account's ceiling, none where it has none
pub record Setting : Type 0 where
  pub caller : Principal
  pub moment : ℕ
  pub region : List ℕ
  pub policies : List Policy
  pub ceiling : List Policy

-- what a request asks that a new grant be: its operations, its grantee, who may retire it, and its constraint
pub record GrantSaid : Type 0 where
  pub operations : GrantOps
  pub grantee : Principal
  pub retiring : Option Principal
  pub constraint : Constraint

-- what kind of key it is, by the texts that say so: its spec, and what it is used for
pub record KindSaid : Type 0 where
  pub spec : List ℕ
  pub usage : List ℕ

-- what a request says of itself beside its action: the kind of the key that it is about, of one that it makes what it asks
-- for; the key's tags; the tags that it gives to the key; the keys of the tags that it takes from it; its encryption
-- context; the algorithm of a MAC; the names of the key's aliases, in order of making; the alias name by which it names the key; the grant that it
-- asks for; whether it encrypts anew under the same key; whether it passes over the check of a new policy; the waiting period
-- of a deletion in days; and the period of automatic rotation in days
pub record Particulars : Type 0 where
  pub kind : Option KindSaid
  pub tags : Tags
  pub request_tags : List Tag
  pub untagged : List (List ℕ)
  pub context : List Pair
  pub mac_algorithm : Option (List ℕ)
  pub aliases : List (List ℕ)
  pub request_alias : Option (List ℕ)
  pub grant : Option GrantSaid
  pub same_key : Option Bool
  pub bypass : Option Bool
  pub window : Option ℕ
  pub period : Option ℕ

-- the names of the aliases that name a key, in order of making
abbrev pub names_of : List ℕ → List AliasRow → List (List ℕ)
names_of key aliases = map (λ (row : AliasRow). row.name) (filter (names_key key) aliases)

-- an action on a resource, with what the request says of itself
pub record Asked : Type 0 where
  pub action : Action
  pub resource : List ℕ
  pub particulars : Particulars

-- ---- the policies of a principal

-- the first identity of this ARN
abbrev pub identity_at : List Identity → List ℕ → Option Identity
identity_at identities arn = find (λ (identity : Identity). bytes_eq (principal_text identity.principal) arn) identities

abbrev pub policies_or_none : Option Identity → List Policy
policies_or_none None = []
policies_or_none (Some identity) = identity.policies

-- the policies of a principal, none where it has no identity
unfoldable pub policies_of : List Identity → Principal → List Policy
policies_of identities principal = policies_or_none (identity_at identities (principal_text principal))

-- the policies of a caller; the root, which may do everything, has none
abbrev pub callers_policies : List Identity → Principal → List Policy
callers_policies identities (Root account) = []
callers_policies identities (User account name) = policies_of identities (User account name)
callers_policies identities (Role account name) = policies_of identities (Role account name)

abbrev pub is_root : Principal → Bool
is_root (Root account) = true
is_root (User account name) = false
is_root (Role account name) = false
