-- The operations that list (AWS KMS API Reference, ListKeys, ListAliases, ListRetirableGrants, ListKeyPolicies, ListKeyRotations, ListGrants): what each
-- says of the steps.
use Rattle.std.specs.Prelude.{ℕ, suc, List, [], ◌∷◌, codes, drop, filter, map, Bool, true, false, ◌&&◌, not, is_some, Option, Some, None, Result, Ok}
use Rattle.kms_names.specs.declared.actions.Action.{Action}
use Rattle.kms_names.specs.declared.actions.Action.TheVariants as action
use Rattle.kms_names.specs.declared.principals.Principal.{Principal}
use Rattle.kms_json.specs.declared.asks.grants.GrantConstraint.{GrantConstraint}
use Rattle.kms_json.specs.declared.asks.grants.GrantConstraint.TheVariants as given
use Rattle.kms_json.specs.declared.asks.pages.Page.{Page}
use Rattle.kms_json.specs.declared.refusals.Refusal.{Refusal}
use Rattle.kms_json.specs.declared.replies.Reply.{Reply}
use Rattle.kms_json.specs.declared.replies.Reply.TheVariants as reply
use Rattle.kms_json.specs.declared.replies.lists.ListedAlias.{ListedAlias}
use Rattle.kms_json.specs.declared.replies.lists.ListedGrant.{ListedGrant}
use Rattle.kms_json.specs.declared.replies.lists.Rotation.{Rotation}
use Rattle.hmac_keys.specs.declared.kinds.KeyKind.{KeyKind}
use Rattle.key_states.specs.declared.rows.KeyRow.{KeyRow}
use Rattle.key_states.specs.declared.versions.Version.{Version}
use Rattle.alias_map.specs.declared.rows.AliasRow.{AliasRow}
use Rattle.alias_map.specs.Aliases.{names_key}
use Rattle.grant_table.specs.declared.constraints.Constraint.{Constraint}
use Rattle.grant_table.specs.declared.constraints.Constraint.TheVariants as constraint
use Rattle.grant_table.specs.declared.rows.GrantRow.{GrantRow}
use Rattle.grant_table.specs.Grants.{is_of_key, has_id, has_retiring}
use Rattle.grant_table.specs.Principals.{same_principal}
use Rattle.account_rows.specs.Changes.{is_gone}
use Rattle.account_lists.specs.declared.lists.AccountList.{AccountList}
use Rattle.account_lists.specs.declared.lists.AccountList.TheVariants as all
use Rattle.account_lists.specs.declared.lists.ListedIn.{ListedIn}
use Rattle.account_lists.specs.declared.lists.ListedIn.TheVariants as listed
use Rattle.account_lists.specs.declared.lists.KeyList.{KeyList}
use Rattle.account_lists.specs.declared.lists.KeyList.TheVariants as of
use Rattle.account_lists.specs.declared.lists.ListedOf.{ListedOf}
use Rattle.account_lists.specs.declared.lists.Sought.{Sought}
use Rattle.account_lists.specs.declared.listings.Numbered.{Numbered}
use Rattle.account_steps.specs.Places.{nothing_used}
use Rattle.account_steps.specs.Steps.{unless, and_then, unrotated, only_key_of}
use Rattle.account_steps.specs.Authority.{on_key, on_other, of_none, of_key}
use Rattle.account_steps.specs.View.{View, key_held, is_live}
use Rattle.account_lists.specs.Pages.{Part, part_of, behind_marker, PartsMakeTheWhole}
use Rattle.account_steps.specs.Parts.{ReadParts}
use Rattle.account_steps.specs.Given.{principal_in, principal_if_given, grant_id_in}

-- ---- the rows that are listed

-- the keys that aren't gone
abbrev pub listed_keys : View → List KeyRow
listed_keys view = filter (λ row. not (is_gone view.moment row)) view.keys

-- the aliases of keys that aren't gone, or those of one key
abbrev pub is_listed_alias : View → Option (List ℕ) → AliasRow → Bool
is_listed_alias view None row = is_some (key_held view row.key)
is_listed_alias view (Some key) row = names_key key row

abbrev pub listed_aliases : View → Option (List ℕ) → List AliasRow
listed_aliases view key = filter (is_listed_alias view key) view.aliases

-- the live grants that a principal may retire
abbrev pub retirable_grants : View → Principal → List GrantRow
retirable_grants view retiring = filter (is_live view) (filter (has_retiring retiring) view.grants)

-- what is sought of the grants of a key: the one of an id, those of a grantee
abbrev pub has_sought_id : Option (List ℕ) → GrantRow → Bool
has_sought_id None grant = true
has_sought_id (Some id) grant = has_id id grant

abbrev pub has_sought_grantee : Option Principal → GrantRow → Bool
has_sought_grantee None grant = true
has_sought_grantee (Some grantee) grant = same_principal grant.grantee grantee

abbrev pub grants_of_key : View → List ℕ → Sought → List GrantRow
grants_of_key view key sought = filter (λ grant. has_sought_id sought.grant grant && has_sought_grantee sought.grantee grant) (filter (is_of_key key) view.grants)

-- the versions with their numbers
abbrev pub numbered_from : ℕ → List Version → List Numbered
numbered_from number [] = []
numbered_from number (version ∷ versions) = record { number = number; version = version } ∷ numbered_from (suc number) versions

-- all versions but the first came by rotation
abbrev pub rotations_of : KeyRow → List Numbered
rotations_of row = numbered_from 2 (drop 1 row.versions)

-- ---- as replies show them

abbrev pub shown_alias : AliasRow → ListedAlias
shown_alias row = record { name = row.name; key = row.key; created = row.made; updated = row.updated }

abbrev pub shown_constraint : Constraint → GrantConstraint
shown_constraint constraint.Free = given.Free
shown_constraint (constraint.Equals pairs) = given.Equals pairs
shown_constraint (constraint.Subset pairs) = given.Subset pairs

abbrev pub shown_grant : GrantRow → ListedGrant
shown_grant grant = record {
  grant = grant.grant;
  key = grant.key;
  created = grant.made;
  grantee = grant.grantee;
  retiring = grant.retiring;
  operations = grant.operations;
  constraint = shown_constraint grant.constraint;
  name = grant.name;
}

abbrev pub shown_rotation : Numbered → Rotation
shown_rotation numbered = record { date = numbered.version.time; on_demand = numbered.version.on_demand }

abbrev pub key_page : View → Part KeyRow → Reply
key_page view part = reply.Keys (record { account = view.facts.account; region = view.facts.region; keys = map (λ (row : KeyRow). row.key) part.rows; next = part.next })

abbrev pub alias_page : View → Part AliasRow → Reply
alias_page view part = reply.Aliases (record { account = view.facts.account; region = view.facts.region; aliases = map shown_alias part.rows; next = part.next })

abbrev pub grant_page : View → Part GrantRow → Reply
grant_page view part = reply.Grants (record { account = view.facts.account; region = view.facts.region; grants = map shown_grant part.rows; next = part.next })

abbrev pub rotation_page : KeyRow → Part Numbered → Reply
rotation_page row part = reply.Rotations (record { key = row.key; rotations = map shown_rotation part.rows; next = part.next })

-- ---- the law

-- the parts of each list of a view, joined, are all of its rows behind the place where they begin
pub record PartsOfListsMakeTheWhole (view : View) : Type 0 where
  pub keys : PartsMakeTheWhole (λ (row : KeyRow). row.born) (listed_keys view)
  pub aliases : (key : Option (List ℕ)) → PartsMakeTheWhole (λ (row : AliasRow). row.born) (listed_aliases view key)
  pub retirable : (retiring : Principal) → PartsMakeTheWhole (λ (grant : GrantRow). grant.born) (retirable_grants view retiring)
  pub grants : (key : List ℕ) (sought : Sought) → PartsMakeTheWhole (λ (grant : GrantRow). grant.born) (grants_of_key view key sought)
  pub rotations : (row : KeyRow) → PartsMakeTheWhole (λ (numbered : Numbered). numbered.number) (rotations_of row)

-- ---- lists of the account

abbrev pub action_in : AccountList → Action
action_in all.Keys = action.ListKeys
action_in (all.Aliases key_id) = action.ListAliases
action_in (all.RetirableGrants retiring) = action.ListRetirableGrants

abbrev pub key_id_if_given : View → Option (List ℕ) → Result (Option (List ℕ)) Refusal
key_id_if_given view None = Ok None
key_id_if_given view (Some reference) = and_then (only_key_of view reference) (λ row. Ok (Some row.key))

-- whose rows are listed
abbrev pub listed_in : View → AccountList → Result ListedIn Refusal
listed_in view all.Keys = Ok listed.Keys
listed_in view (all.Aliases reference) = and_then (key_id_if_given view reference) (λ key. Ok (listed.Aliases key))
listed_in view (all.RetirableGrants text) = and_then (principal_in text) (λ retiring. Ok (listed.Grants retiring))

abbrev pub part_in : View → ListedIn → ℕ → Option ℕ → Reply
part_in view listed.Keys limit after = key_page view (part_of (λ (row : KeyRow). row.born) (listed_keys view) limit after)
part_in view (listed.Aliases key) limit after = alias_page view (part_of (λ (row : AliasRow). row.born) (listed_aliases view key) limit after)
part_in view (listed.Grants retiring) limit after = grant_page view (part_of (λ (grant : GrantRow). grant.born) (retirable_grants view retiring) limit after)

-- ListKeys, ListAliases, ListRetirableGrants
abbrev pub lists_in : View → AccountList → Page → ReadParts ListedIn (Option ℕ)
lists_in view what page = record {
  parts = record {
    found = listed_in view what;
    questions = λ listed. on_other (action_in what) (codes "*") of_none ∷ [];
    tokens = [];
    uses = λ listed. [];
    own = λ listed. behind_marker page.marker;
    dry_run = false;
    reply = λ listed after. part_in view listed page.limit after;
  };
  takes = nothing_used;
}

-- ---- lists of a key

abbrev pub action_on : KeyList → Action
action_on of.Policies = action.ListKeyPolicies
action_on of.Rotations = action.ListKeyRotations
action_on (of.Grants grant_id grantee) = action.ListGrants

abbrev pub grant_id_if_given : Option (List ℕ) → Result (Option (List ℕ)) Refusal
grant_id_if_given None = Ok None
grant_id_if_given (Some text) = and_then (grant_id_in text) (λ id. Ok (Some id))

-- a list of rotations, of a key whose material isn't rotated
abbrev pub unlisted : KeyList → KeyKind → Option Refusal
unlisted of.Rotations kind = unrotated kind
unlisted _ kind = None

-- what is sought
abbrev pub sought_of : KeyList → Result Sought Refusal
sought_of of.Policies = Ok (record { grant = None; grantee = None })
sought_of of.Rotations = Ok (record { grant = None; grantee = None })
sought_of (of.Grants grant_id grantee) =
    and_then (grant_id_if_given grant_id) (λ id. and_then (principal_if_given grantee) (λ principal. Ok (record { grant = id; grantee = principal })))

abbrev pub listed_of : View → List ℕ → KeyList → Result ListedOf Refusal
listed_of view reference what = and_then (only_key_of view reference) (λ row. and_then (sought_of what) (λ sought. Ok (record { row = row; sought = sought })))

abbrev pub part_on : View → KeyList → ListedOf → ℕ → Option ℕ → Reply
part_on view of.Policies listed limit after = reply.KeyPolicyNames
part_on view of.Rotations listed limit after = rotation_page listed.row (part_of (λ (numbered : Numbered). numbered.number) (rotations_of listed.row) limit after)
part_on view (of.Grants grant_id grantee) listed limit after =
    grant_page view (part_of (λ (grant : GrantRow). grant.born) (grants_of_key view listed.row.key listed.sought) limit after)

-- ListKeyPolicies, ListKeyRotations, ListGrants
abbrev pub lists_on : View → List ℕ → KeyList → Page → ReadParts ListedOf (Option ℕ)
lists_on view reference what page = record {
  parts = record {
    found = listed_of view reference what;
    questions = λ listed. on_key (action_on what) listed.row (of_key view listed.row) ∷ [];
    tokens = [];
    uses = λ listed. record { action = action_on what; key = listed.row } ∷ [];
    own = λ listed. unless (unlisted what listed.row.kind) (behind_marker page.marker);
    dry_run = false;
    reply = λ listed after. part_on view what listed page.limit after;
  };
  takes = nothing_used;
}
