-- What entries do to the grants of an account (AWS KMS API Reference, CreateGrant, RetireGrant and RevokeGrant).
use Rattle.std.specs.Prelude.{ℕ, List, [], ◌∷◌, ◌++◌, Option, Some, None}
use Rattle.kms_names.specs.declared.operations.GrantOps.{GrantOps}
use Rattle.kms_names.specs.declared.principals.Principal.{Principal}
use Rattle.key_states.specs.declared.rows.KeyRow.{KeyRow}
use Rattle.grant_table.specs.declared.constraints.Constraint.{Constraint}
use Rattle.grant_table.specs.declared.rows.GrantRow.{GrantRow}
use Rattle.grant_table.specs.Grants.{without, without_keys}
use Rattle.account_rows.specs.declared.entries.What.{What}
use Rattle.account_rows.specs.declared.entries.What.TheVariants.{GrantAdd, GrantDrop, House}
use Rattle.account_rows.specs.Changes.{gone_keys}

-- a grant as it is made
abbrev pub new_grant : ℕ → ℕ → List ℕ → List ℕ → Principal → Option Principal → GrantOps → Constraint → Option (List ℕ) → GrantRow
new_grant place time grant key grantee retiring operations constraint name = record {
  grant = grant;
  born = place;
  made = time;
  key = key;
  grantee = grantee;
  retiring = retiring;
  operations = operations;
  constraint = constraint;
  name = name;
}

-- what is done to the grants: one is added, the one of an id is dropped, or housekeeping at a time
pub data GrantChange : Type 0 where
  adds : GrantRow → GrantChange
  drops : List ℕ → GrantChange
  houses : GrantChange

-- what an entry at this place and time does to the grants, where it touches them
abbrev pub grant_change : ℕ → ℕ → What → Option GrantChange
grant_change place time (GrantAdd grant key grantee retiring operations constraint name) = Some (adds (new_grant place time grant key grantee retiring operations constraint name))
grant_change place time (GrantDrop grant) = Some (drops grant)
grant_change place time House = Some houses
grant_change place time _ = None

-- housekeeping removes the grants of the keys that are gone
abbrev pub grants_by : ℕ → List KeyRow → Option GrantChange → List GrantRow → List GrantRow
grants_by time keys None grants = grants
grants_by time keys (Some (adds row)) grants = grants ++ row ∷ []
grants_by time keys (Some (drops grant)) grants = without grants grant
grants_by time keys (Some houses) grants = without_keys grants (gone_keys time keys)

-- the grants of an account with these keys behind an entry at this place and time
abbrev pub grants_after : ℕ → ℕ → What → List KeyRow → List GrantRow → List GrantRow
grants_after place time what keys grants = grants_by time keys (grant_change place time what) grants
