-- The texts of principals, which are ARNs of an account's root, of its users and of its roles.
use Rattle.std.specs.Prelude.{◌≡◌, ℕ, ◌≤◌, List, ◌∷◌, ◌++◌, length, codes}
use Rattle.std.specs.List.{AllPass}
use Rattle.kms_names.specs.Characters.{is_name_character}
use Rattle.kms_names.specs.Account.{IsAccountNumber}
use Rattle.kms_names.specs.declared.principals.Principal.{Principal}
use Rattle.kms_names.specs.declared.principals.Principal.TheVariants.{Root, User, Role}

-- the path and name of a user or a role
abbrev pub IsPathAndName : List ℕ → Type 0
IsPathAndName text = (1 ≤ length text) × (length text ≤ 512) × AllPass is_name_character text

-- the account is a number, and the path and name are of their form
abbrev pub IsPrincipal : Principal → Type 0
IsPrincipal (Root account) = IsAccountNumber account
IsPrincipal (User account name) = IsAccountNumber account × IsPathAndName name
IsPrincipal (Role account name) = IsAccountNumber account × IsPathAndName name

-- an ARN of the service of principals, with its account and resource
abbrev pub IsIamArn : List ℕ → List ℕ → List ℕ → Type 0
IsIamArn text account resource = IsAccountNumber account × (text ≡ codes "arn:aws:iam::" ++ (account ++ 58 ∷ resource))

-- the ARN of a principal
abbrev pub principal_text : Principal → List ℕ
principal_text (Root account) = codes "arn:aws:iam::" ++ (account ++ codes ":root")
principal_text (User account name) = codes "arn:aws:iam::" ++ (account ++ (codes ":user/" ++ name))
principal_text (Role account name) = codes "arn:aws:iam::" ++ (account ++ (codes ":role/" ++ name))

-- its account
abbrev pub account_of : Principal → List ℕ
account_of (Root account) = account
account_of (User account name) = account
account_of (Role account name) = account
