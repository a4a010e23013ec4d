-- What the readers of names answer, as functions of the text.
use Rattle.std.specs.Prelude.{ℕ, Bool, true, false, ◌&&◌, ◌==◌, not, if◌then◌else◌, List, [], ◌∷◌, Option, Some, None, Result, Ok, Err, length, nat_le, codes, option_map, option_and_then, is_some}
use Rattle.std.specs.Char.{is_ascii_digit}
use Rattle.std.specs.List.{list_all}
use Rattle.std.specs.Str.{bytes_eq}
use Rattle.uuid.specs.Text.{parsed_hyphenated}
use Rattle.kms_names.specs.Characters.{is_name_character, is_region_character}
use Rattle.kms_names.specs.Alias.{is_alias_character}
use Rattle.kms_names.specs.declared.faults.NameFault.{NameFault}
use Rattle.kms_names.specs.declared.faults.NameFault.TheVariants.{BadArn, BadAlias, BadId}
use Rattle.kms_names.specs.declared.principals.Principal.{Principal}
use Rattle.kms_names.specs.declared.principals.Principal.TheVariants.{Root, User, Role}
use Rattle.kms_names.specs.declared.references.KeyRef.{KeyRef}
use Rattle.kms_names.specs.declared.references.KeyRef.TheVariants.{Key, Alias, Elsewhere}

-- the value, where the test is true
abbrev pub some_if : {A : Type 0} → Bool → A → Option A
some_if true x = Some x
some_if false x = None

-- what follows a front, where the text begins with it
abbrev pub after_front : List ℕ → List ℕ → Option (List ℕ)
after_front [] text = Some text
after_front (c ∷ front) [] = None
after_front (c ∷ front) (d ∷ text) = if c == d then after_front front text else None

-- what stands before and behind the first colon, where there is one
abbrev pub cut_at_colon : List ℕ → Option (List ℕ × List ℕ)
cut_at_colon [] = None
cut_at_colon (c ∷ text) = if c == 58 then Some ([], text) else option_map (λ p. (c ∷ p.0, p.1)) (cut_at_colon text)

-- the tests of the written forms
abbrev pub is_account_number : List ℕ → Bool
is_account_number text = (length text == 12) && list_all is_ascii_digit text

abbrev pub is_region_text : List ℕ → Bool
is_region_text text = nat_le 1 (length text) && (nat_le (length text) 32 && list_all is_region_character text)

abbrev pub is_path_and_name : List ℕ → Bool
is_path_and_name text = nat_le 1 (length text) && (nat_le (length text) 512 && list_all is_name_character text)

abbrev pub is_alias_part : Option (List ℕ) → Bool
is_alias_part None = false
is_alias_part (Some name) = nat_le 1 (length name) && list_all is_alias_character name

abbrev pub is_alias_text : List ℕ → Bool
is_alias_text text =
    is_alias_part (after_front (codes "alias/") text) && (nat_le (length text) 256 && not (is_some (after_front (codes "alias/aws/") text)))

-- the alias name that a text is
abbrev pub alias_of : List ℕ → Result (List ℕ) NameFault
alias_of text = if is_alias_text text then Ok text else Err BadAlias

-- a principal: its account, and what stands behind it
abbrev pub iam_numbered : List ℕ × List ℕ → Option (List ℕ × List ℕ)
iam_numbered (account, resource) = some_if (is_account_number account) (account, resource)

abbrev pub iam_parts : List ℕ → Option (List ℕ × List ℕ)
iam_parts text = option_and_then iam_numbered (option_and_then cut_at_colon (after_front (codes "arn:aws:iam::") text))

abbrev pub path_behind : List ℕ → List ℕ → Option (List ℕ)
path_behind front text = option_and_then (λ name. some_if (is_path_and_name name) name) (after_front front text)

abbrev pub role_or_none : List ℕ → Option (List ℕ) → Option Principal
role_or_none account path = option_map (Role account) path

abbrev pub user_or : List ℕ → Option (List ℕ) → Option Principal → Option Principal
user_or account None other = other
user_or account (Some name) other = Some (User account name)

abbrev pub principal_at : List ℕ × List ℕ → Option Principal
principal_at (account, resource) =
    if bytes_eq resource (codes "root") then Some (Root account)
    else user_or account (path_behind (codes "user/") resource) (role_or_none account (path_behind (codes "role/") resource))

-- the principal whose text it is
abbrev pub principal_of : List ℕ → Option Principal
principal_of text = option_and_then principal_at (iam_parts text)

-- the region, the account and the resource of an ARN of the key service
abbrev pub kms_checked : List ℕ → List ℕ × List ℕ → Option (List ℕ × List ℕ × List ℕ)
kms_checked region (account, resource) = some_if (is_account_number account && is_region_text region) (region, account, resource)

abbrev pub kms_behind : List ℕ × List ℕ → Option (List ℕ × List ℕ × List ℕ)
kms_behind (region, rest) = option_and_then (kms_checked region) (cut_at_colon rest)

abbrev pub kms_parts : List ℕ → Option (List ℕ × List ℕ × List ℕ)
kms_parts text = option_and_then kms_behind (option_and_then cut_at_colon (after_front (codes "arn:aws:kms:") text))

-- what a resource names
abbrev pub key_or : List ℕ → Option (List ℕ) → Option KeyRef
key_or resource None = some_if (is_alias_text resource) (Alias resource)
key_or resource (Some id) = option_map Key (parsed_hyphenated id)

abbrev pub target_of : List ℕ → Option KeyRef
target_of resource = key_or resource (after_front (codes "key/") resource)

abbrev pub here_or_elsewhere : Bool → Option KeyRef → Result KeyRef NameFault
here_or_elsewhere here None = Err BadArn
here_or_elsewhere true (Some target) = Ok target
here_or_elsewhere false (Some target) = Ok Elsewhere

abbrev pub arn_reference : List ℕ → List ℕ → Option (List ℕ × List ℕ × List ℕ) → Result KeyRef NameFault
arn_reference account region None = Err BadArn
arn_reference account region (Some parts) =
    here_or_elsewhere (bytes_eq parts.0 region && bytes_eq parts.1 account) (target_of parts.2)

abbrev pub id_reference : Option (List ℕ) → Result KeyRef NameFault
id_reference None = Err BadId
id_reference (Some key) = Ok (Key key)

-- what a text refers to in an account and region, or why it refers to nothing
unfoldable pub key_ref_of : List ℕ → List ℕ → List ℕ → Result KeyRef NameFault
key_ref_of text account region =
    if is_some (after_front (codes "arn:") text) then arn_reference account region (kms_parts text)
    else if is_alias_text text then Ok (Alias text)
    else if is_some (after_front (codes "alias/") text) then Err BadAlias
    else id_reference (parsed_hyphenated text)
