-- Grants in order of making, as a plain list, and what each permits (AWS KMS Developer Guide, "Grants in AWS KMS").
use Rattle.std.specs.Prelude.{◌≡◌, ◌≢◌, ℕ, ◌<◌, Bool, true, false, not, ◌&&◌, ◌||◌, List, [], ◌∷◌, length, filter, find, map, Option, None, Some, IsSome, All, AllPairs}
use Rattle.std.specs.List.{list_all, list_any}
use Rattle.std.specs.Str.{bytes_eq}
use Rattle.kms_names.specs.declared.operations.GrantOp.{GrantOp}
use Rattle.kms_names.specs.declared.operations.GrantOp.TheVariants.{Encrypt, Decrypt, GenerateDataKey, GenerateDataKeyWithoutPlaintext, ReEncryptFrom, ReEncryptTo, GenerateMac, VerifyMac, CreateGrant}
use Rattle.kms_names.specs.declared.operations.GrantOps.{GrantOps}
use Rattle.kms_names.specs.declared.principals.Principal.{Principal}
use Rattle.kms_names.specs.Place.{is_behind}
use Rattle.kms_names.specs.Action.{is_among}
use Rattle.kms_names.specs.GrantOps.{all_grant_ops, action_of, contains, IsSubset}
use Rattle.enc_context.specs.declared.pairs.Pair.{Pair}
use Rattle.grant_table.specs.Constraints.{ConstraintHolds, constraint_holds, IsAsStrict, is_as_strict, same_constraint}
use Rattle.grant_table.specs.Principals.{same_principal}
use Rattle.grant_table.specs.declared.constraints.Constraint.{Constraint}
use Rattle.grant_table.specs.declared.rows.GrantRow.{GrantRow}

-- ---- what a grant permits

-- the constraint is asked of the operations on a text and its context, and of those on a MAC, whose context is empty. It
-- isn't asked of DescribeKey and RetireGrant; for CreateGrant it is asked of the child grant instead
abbrev pub constrained : List GrantOp
constrained = Encrypt ∷ Decrypt ∷ GenerateDataKey ∷ GenerateDataKeyWithoutPlaintext ∷ ReEncryptFrom ∷ ReEncryptTo ∷ GenerateMac ∷ VerifyMac ∷ []

abbrev pub asks_constraint : GrantOp → Bool
asks_constraint op = is_among (map action_of constrained) (action_of op)

-- the grant is of the key, the caller is its grantee, the operation is among its own, and its constraint holds where it
-- is asked
abbrev pub Permits : GrantRow → List ℕ → Principal → GrantOp → List Pair → Type 0
Permits row key caller op context =
    (row.key ≡ key) × (row.grantee ≡ caller) × (contains row.operations op ≡ true) × (asks_constraint op ≡ true → ConstraintHolds row.constraint context)

-- whether it permits
abbrev pub permits : List ℕ → Principal → GrantOp → List Pair → GrantRow → Bool
permits key caller op context row =
    bytes_eq row.key key && (same_principal row.grantee caller && (contains row.operations op && (not (asks_constraint op) || constraint_holds row.constraint context)))

-- a grant with these operations and this constraint is a child of another: its operations are among the other's, and
-- its constraint is as strict
abbrev pub IsChildOf : GrantRow → GrantOps → Constraint → Type 0
IsChildOf parent operations constraint = IsSubset operations parent.operations × IsAsStrict parent.constraint constraint

-- whether each operation of a set is in another
abbrev pub is_subset : GrantOps → GrantOps → Bool
is_subset ops others = list_all (λ op. not (contains ops op) || contains others op) all_grant_ops

-- whether it is a child
abbrev pub is_child_of : GrantRow → GrantOps → Constraint → Bool
is_child_of parent operations constraint = is_subset operations parent.operations && is_as_strict parent.constraint constraint

-- the caller may make a grant of these operations and this constraint by the grant: it permits CreateGrant on the key to
-- the caller, and such a grant is a child of it
abbrev pub is_parent : List ℕ → Principal → GrantOps → Constraint → GrantRow → Bool
is_parent key caller operations constraint row = permits key caller CreateGrant [] row && is_child_of row operations constraint

-- ---- the same grant

abbrev pub is_text : List ℕ → Option (List ℕ) → Bool
is_text name None = false
is_text name (Some text) = bytes_eq text name

abbrev pub has_name : List ℕ → GrantRow → Bool
has_name name row = is_text name row.name

-- whether both have a retiring principal and the same one, or neither has one
abbrev pub same_retiring : Option Principal → Option Principal → Bool
same_retiring None None = true
same_retiring None (Some other) = false
same_retiring (Some principal) None = false
same_retiring (Some principal) (Some other) = same_principal principal other

-- whether two sets have the same operations
abbrev pub same_operations : GrantOps → GrantOps → Bool
same_operations ops others = is_subset ops others && is_subset others ops

-- whether a grant is of the key and has this name, this grantee, this retiring principal, these operations and this
-- constraint
abbrev pub is_same : List ℕ → List ℕ → Principal → Option Principal → GrantOps → Constraint → GrantRow → Bool
is_same key name grantee retiring operations constraint row =
    bytes_eq row.key key
    && (has_name name row && (same_principal row.grantee grantee && (same_retiring row.retiring retiring && (same_operations row.operations operations && same_constraint row.constraint constraint))))

-- ---- look-ups

abbrev pub has_id : List ℕ → GrantRow → Bool
has_id grant row = bytes_eq row.grant grant

abbrev pub is_of_key : List ℕ → GrantRow → Bool
is_of_key key row = bytes_eq row.key key

-- the principal may retire the grant as its retiring principal
abbrev pub is_principal : Principal → Option Principal → Bool
is_principal principal None = false
is_principal principal (Some retiring) = same_principal retiring principal

abbrev pub has_retiring : Principal → GrantRow → Bool
has_retiring principal row = is_principal principal row.retiring

-- the first grant of an id
abbrev pub grant_with : List GrantRow → List ℕ → Option GrantRow
grant_with rows grant = find (has_id grant) rows

-- the first that permits
abbrev pub grant_permitting : List GrantRow → List ℕ → Principal → GrantOp → List Pair → Option GrantRow
grant_permitting rows key caller op context = find (permits key caller op context) rows

-- the first of a retiring principal that was made behind a place
abbrev pub grant_retirable : List GrantRow → Principal → Option ℕ → Option GrantRow
grant_retirable rows principal after = find (λ row. has_retiring principal row && is_behind after row.born) rows

-- the first of a key that was made behind a place
abbrev pub grant_of_key : List GrantRow → List ℕ → Option ℕ → Option GrantRow
grant_of_key rows key after = find (λ row. is_of_key key row && is_behind after row.born) rows

-- the first by which a caller may make a grant of these operations and this constraint
abbrev pub parent_of : List GrantRow → List ℕ → Principal → GrantOps → Constraint → Option GrantRow
parent_of rows key caller operations constraint = find (is_parent key caller operations constraint) rows

-- the first that is the same as another but for its id and its making
abbrev pub same_as : List GrantRow → List ℕ → List ℕ → Principal → Option Principal → GrantOps → Constraint → Option GrantRow
same_as rows key name grantee retiring operations constraint = find (is_same key name grantee retiring operations constraint) rows

-- how many grants a key has
abbrev pub number_of_key : List GrantRow → List ℕ → ℕ
number_of_key rows key = length (filter (is_of_key key) rows)

-- the grant is of one of the keys
abbrev pub is_of_any : List (List ℕ) → GrantRow → Bool
is_of_any keys row = list_any (λ key. is_of_key key row) keys

-- the grants that are of none of the keys
abbrev pub without_keys : List GrantRow → List (List ℕ) → List GrantRow
without_keys rows keys = filter (λ row. not (is_of_any keys row)) rows

-- the grants of all other ids
abbrev pub without : List GrantRow → List ℕ → List GrantRow
without rows grant = filter (λ row. not (has_id grant row)) rows

-- ---- conditions

-- a grant may be added: its id isn't there, and it is born behind all
abbrev pub MayAdd : List GrantRow → GrantRow → Type 0
MayAdd rows row = All (λ (old : GrantRow). old.grant ≢ row.grant) rows × All (λ (old : GrantRow). old.born < row.born) rows

-- a grant has the id
abbrev pub IsThere : List GrantRow → List ℕ → Type 0
IsThere rows grant = IsSome (grant_with rows grant)

-- no two grants have one id, and each was made before the later ones
abbrev pub AreGrants : List GrantRow → Type 0
AreGrants rows = AllPairs (λ (p q : GrantRow). p.grant ≢ q.grant) rows × AllPairs (λ (p q : GrantRow). p.born < q.born) rows
