-- The principals with policies of their own.
use Rattle.std.specs.Prelude.{ℕ, Bool, false, ◌&&◌, List, [], ◌∷◌, ◌++◌, codes, not, Option, Some, None, option_and_then, Result, Ok, Err}
use Rattle.std.specs.List.{list_any}
use Rattle.std.specs.Str.{bytes_eq}
use Rattle.serde_json.specs.Data.{Data, Members}
use Rattle.serde_json.specs.Find.{get}
use Rattle.kms_names.specs.Reading.{some_if}
use Rattle.kms_names.specs.declared.principals.Principal.{Principal}
use Rattle.kms_names.specs.declared.principals.Principal.TheVariants.{Root, User, Role}
use Rattle.policy_doc.specs.Documents.{first_fault, statements_of}
use Rattle.policy_doc.specs.Names.{first_unknown}
use Rattle.policy_doc.specs.Paths.{member_path, item_path}
use Rattle.policy_doc.specs.declared.faults.PolicyFault.{PolicyFault}
use Rattle.policy_doc.specs.declared.faults.PolicyFault.TheVariants as fault
use Rattle.policy_doc.specs.declared.policies.Policy.{Policy}
use Rattle.policy_doc.specs.declared.policies.PolicyKind.TheVariants as kind
use Rattle.authority.specs.declared.identities.Identity.{Identity}
use Rattle.kms_config.specs.Answers.{◌>>=◌, at}
use Rattle.kms_config.specs.Lists.{if_any, items_within, items_from}
use Rattle.kms_config.specs.Members.{members_in, none_other}
use Rattle.kms_config.specs.Forms.{principal_at, no_root}

-- ---- documents

-- the place of a document's fault, behind the document's own
abbrev pub fault_place : PolicyFault → List ℕ
fault_place (fault.BadShape path) = path
fault_place (fault.Unsupported path) = path
fault_place fault.TooLong = []
fault_place fault.NotJson = []
fault_place fault.NoMemory = []

abbrev pub document_by : List ℕ → Data → Option PolicyFault → Result Policy (List ℕ)
document_by path value None = Ok (record { kind = kind.Identity; statements = statements_of kind.Identity value })
document_by path value (Some why) = Err (path ++ fault_place why)

-- an identity policy
unfoldable pub document_in : List ℕ → Data → Result Policy (List ℕ)
document_in path value = document_by path value (first_fault kind.Identity value)

-- the policies with one more document
abbrev pub next_document : List ℕ → List Policy → ℕ → Data → Result (List Policy) (List ℕ)
next_document path policies index value = document_in (item_path path index) value >>= (λ policy. Ok (policies ++ policy ∷ []))

-- a list of at most 10
abbrev pub documents_in : List ℕ → Option Data → Result (List Policy) (List ℕ)
documents_in path value = at path (items_within 10 value) >>= items_from (next_document path) [] 0

-- the documents of the account's ceiling: none where it is left out, else a list of 1 to 10
abbrev pub ceiling_in : List ℕ → Option Data → Result (List Policy) (List ℕ)
ceiling_in path None = Ok []
ceiling_in path (Some value) = at path (option_and_then if_any (items_within 10 (Some value))) >>= items_from (next_document path) [] 0

-- ---- principals

abbrev pub identity_names : List (List ℕ)
identity_names = codes "principal" ∷ codes "documents" ∷ []

abbrev pub is_same : Principal → Principal → Bool
is_same (Root account) (Root other) = bytes_eq account other
is_same (Root account) (User other name) = false
is_same (Root account) (Role other name) = false
is_same (User account name) (Root other) = false
is_same (User account name) (User other text) = bytes_eq account other && bytes_eq name text
is_same (User account name) (Role other text) = false
is_same (Role account name) (Root other) = false
is_same (Role account name) (User other text) = false
is_same (Role account name) (Role other text) = bytes_eq account other && bytes_eq name text

-- one of them is of this principal
abbrev pub has_principal : List Identity → Principal → Bool
has_principal identities principal = list_any (λ (identity : Identity). is_same identity.principal principal) identities

abbrev pub if_first : List Identity → Principal → Option Principal
if_first identities principal = some_if (not (has_principal identities principal)) principal

-- a user or a role of the account, of whom there are no policies yet
unfoldable pub new_principal : List ℕ → List Identity → Data → Option Principal
new_principal account identities value = option_and_then (if_first identities) (option_and_then no_root (principal_at account value))

unfoldable pub policies_in : List ℕ → Data → Result (List Policy) (List ℕ)
policies_in path value = documents_in (member_path path (codes "documents")) (get (codes "documents") value)

-- its members, in the order in which their faults are looked for
unfoldable pub identity_by : List ℕ → Option Principal → Result (List Policy) (List ℕ) → Option (List ℕ) → Result Identity (List ℕ)
identity_by path principal policies unknown = do
  principal ← at (member_path path (codes "principal")) principal
  policies ← policies
  named ← none_other path unknown
  Ok (record { principal = principal; policies = policies })

unfoldable pub identity_of : List ℕ → List Identity → List ℕ → Data → Members → Result Identity (List ℕ)
identity_of account identities path value members =
    identity_by path (new_principal account identities value) (policies_in path value) (first_unknown identity_names members)

-- an item of the list: an object with these members
abbrev pub identity_in : List ℕ → List Identity → List ℕ → Data → Result Identity (List ℕ)
identity_in account identities path value = members_in path value >>= identity_of account identities path value

-- the identities with one more item
abbrev pub next_identity : List ℕ → List ℕ → List Identity → ℕ → Data → Result (List Identity) (List ℕ)
next_identity account path identities index value = identity_in account identities (item_path path index) value >>= (λ identity. Ok (identities ++ identity ∷ []))

-- a list of at most 1,000
abbrev pub identities_in : List ℕ → List ℕ → Option Data → Result (List Identity) (List ℕ)
identities_in account path value = at path (items_within 1000 value) >>= items_from (next_identity account path) [] 0
