-- The credentials of a configuration.
use Rattle.std.specs.Prelude.{ℕ, List, [], ◌∷◌, codes, not, Option, option_and_then, Result, Ok}
use Rattle.serde_json.specs.Data.{Data, Members}
use Rattle.serde_json.specs.Find.{get}
use Rattle.kms_names.specs.Reading.{some_if}
use Rattle.policy_doc.specs.Names.{first_unknown}
use Rattle.kms_names.specs.declared.principals.Principal.{Principal}
use Rattle.policy_doc.specs.Paths.{member_path, item_path}
use Rattle.sigv4_check.specs.Credentials.{has_id, placed}
use Rattle.sigv4_check.specs.declared.credentials.Credential.{Credential}
use Rattle.kms_config.specs.Answers.{◌>>=◌, at}
use Rattle.kms_config.specs.Lists.{items_within, items_from}
use Rattle.kms_config.specs.Members.{members_in, none_other}
use Rattle.kms_config.specs.Forms.{text_where, is_key_id, is_secret, principal_at}

abbrev pub credential_names : List (List ℕ)
credential_names = codes "accessKeyId" ∷ codes "secret" ∷ codes "principal" ∷ []

-- an id that none of those before has
abbrev pub if_new : List Credential → List ℕ → Option (List ℕ)
if_new creds id = some_if (not (has_id id creds)) id

unfoldable pub id_in : List Credential → Data → Option (List ℕ)
id_in creds value = option_and_then (if_new creds) (text_where is_key_id (get (codes "accessKeyId") value))

unfoldable pub secret_in : Data → Option (List ℕ)
secret_in value = text_where is_secret (get (codes "secret") value)

-- its members, in the order in which their faults are looked for
unfoldable pub credential_by : List ℕ → Option (List ℕ) → Option (List ℕ) → Option Principal → Option (List ℕ) → Result Credential (List ℕ)
credential_by path id secret principal unknown = do
  id ← at (member_path path (codes "accessKeyId")) id
  secret ← at (member_path path (codes "secret")) secret
  principal ← at (member_path path (codes "principal")) principal
  named ← none_other path unknown
  Ok (record { id = id; secret = secret; principal = principal })

unfoldable pub credential_of : List ℕ → List Credential → List ℕ → Data → Members → Result Credential (List ℕ)
credential_of account creds path value members =
    credential_by path (id_in creds value) (secret_in value) (principal_at account value) (first_unknown credential_names members)

-- an item of the list: an object with these members
abbrev pub credential_in : List ℕ → List Credential → List ℕ → Data → Result Credential (List ℕ)
credential_in account creds path value = members_in path value >>= credential_of account creds path value

-- the credentials with one more item
abbrev pub next_credential : List ℕ → List ℕ → List Credential → ℕ → Data → Result (List Credential) (List ℕ)
next_credential account path creds index value = credential_in account creds (item_path path index) value >>= (λ credential. Ok (placed credential creds))

-- a list of at most 1,000, each put in its place among those before
abbrev pub credentials_in : List ℕ → List ℕ → Option Data → Result (List Credential) (List ℕ)
credentials_in account path value = at path (items_within 1000 value) >>= items_from (next_credential account path) [] 0
