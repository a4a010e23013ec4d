-- What the operations on grants answer, with members in byte order of their names (AWS KMS API Reference, CreateGrant and GrantListEntry).
use Rattle.std.specs.Prelude.{ℕ, List, [], ◌∷◌, codes, Option, Some, None, option_map}
use Rattle.hex.specs.Hex.{encode_lower}
use Rattle.kms_names.specs.GrantOps.{members, grant_op_name}
use Rattle.kms_names.specs.Principal.{principal_text}
use Rattle.kms_names.specs.Reference.{key_arn_text}
use Rattle.kms_names.specs.declared.operations.GrantOps.{GrantOps}
use Rattle.kms_names.specs.declared.principals.Principal.TheVariants.{Root}
use Rattle.enc_context.specs.declared.pairs.Pair.{Pair}
use Rattle.serde_json.specs.Data.{Data, object, Members, member, no_members, put, string}
use Rattle.kms_json.specs.declared.asks.grants.GrantConstraint.{GrantConstraint}
use Rattle.kms_json.specs.declared.asks.grants.GrantConstraint.TheVariants.{Free, Equals, Subset}
use Rattle.kms_json.specs.declared.replies.lists.ListedGrant.{ListedGrant}
use Rattle.kms_json.specs.declared.replies.lists.GrantPage.{GrantPage}
use Rattle.kms_json.specs.Objects.{with_text, with_any, number_data, list_data}
use Rattle.kms_json.specs.PageReplies.{page_data}

-- the token of a grant is the text of its id
abbrev pub granted_data : List ℕ → Data
granted_data grant = object (with_text (codes "GrantId") (encode_lower grant) (with_text (codes "GrantToken") (encode_lower grant) no_members))

-- the pairs of a context as members
abbrev pub put_pairs : List Pair → Members → Members
put_pairs [] ms = ms
put_pairs (pair ∷ pairs) ms = put_pairs pairs (put pair.key (string pair.value) ms)

abbrev pub context_data : List Pair → Data
context_data pairs = object (put_pairs pairs no_members)

-- what is asked of contexts, if it is anything
abbrev pub constraint_data : GrantConstraint → Option Data
constraint_data Free = None
constraint_data (Equals pairs) = Some (object (member (codes "EncryptionContextEquals") (context_data pairs) no_members))
constraint_data (Subset pairs) = Some (object (member (codes "EncryptionContextSubset") (context_data pairs) no_members))

-- the operations of a set, in their order
abbrev pub operations_data : GrantOps → Data
operations_data operations = list_data (λ op. string (grant_op_name op)) (members operations)

-- a grant by its texts: its id, its grantee, who made it, its key's ARN, and its name and who may retire it, where it has them
abbrev pub grant_by : ℕ → List ℕ → List ℕ → List ℕ → List ℕ → Option (List ℕ) → Option (List ℕ) → Option Data → Data → Data
grant_by created id grantee issuer arn name retiring constraint operations = object
    (with_any (codes "Constraints") constraint
    (member (codes "CreationDate") (number_data created)
    (with_text (codes "GrantId") id
    (with_text (codes "GranteePrincipal") grantee
    (with_text (codes "IssuingAccount") issuer
    (with_text (codes "KeyId") arn
    (with_any (codes "Name") (option_map string name)
    (member (codes "Operations") operations
    (with_any (codes "RetiringPrincipal") (option_map string retiring) no_members)))))))))

-- a grant of this account and region, which its root issued
abbrev pub grant_data : List ℕ → List ℕ → ListedGrant → Data
grant_data account region grant =
    grant_by grant.created (encode_lower grant.grant) (principal_text grant.grantee) (principal_text (Root account)) (key_arn_text account region grant.key)
    grant.name (option_map principal_text grant.retiring) (constraint_data grant.constraint) (operations_data grant.operations)

abbrev pub grants_data : GrantPage → Data
grants_data page = page_data (codes "Grants") (list_data (grant_data page.account page.region) page.grants) page.next
