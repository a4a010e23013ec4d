-- Names and printed principals are UTF-8.
use Rattle.std.proofs.Common.{◌≡◌, ℕ, ◌<◌, true, List, ◌++◌, codes, IsUtf8, refl, sym, subst, arith}
use Rattle.std.proofs.lemmas.Bool.Decides.{nat_tests}
use Rattle.std.proofs.lemmas.Str.{IsUtf8-append}
use Rattle.json.proofs.Printed.Utf8.{IsUtf8-are_ascii}
use Rattle.kms_names.specs.Account.{IsAccountNumber}
use Rattle.kms_names.specs.Alias.{is_alias_character, IsAliasName}
use Rattle.kms_names.specs.Characters.{is_name_character}
use Rattle.kms_names.specs.Principal.{IsPrincipal, IsPathAndName, principal_text}
use Rattle.kms_names.specs.declared.principals.Principal.{Principal}
use Rattle.kms_names.specs.declared.principals.Principal.TheVariants.{Root, User, Role}
use Rattle.kms_names.proofs.AsciiFacts.{IsUtf8-from_test, digit_is_ascii}
use Rattle.std.specs.Char.{is_ascii_digit}

alias_is_ascii : (c : ℕ) → is_alias_character c ≡ true → c < 128
alias_is_ascii c h = grind (arith, nat_tests)

name_is_ascii : (c : ℕ) → is_name_character c ≡ true → c < 128
name_is_ascii c h = grind (arith, nat_tests)

pub alias_utf8 : (name : List ℕ) → IsAliasName name → IsUtf8 name
alias_utf8 name form =
    subst IsUtf8 (sym form.1) (IsUtf8-append (codes "alias/") form.0 (IsUtf8-are_ascii (codes "alias/") refl) (IsUtf8-from_test is_alias_character alias_is_ascii form.0 form.4))

account_utf8 : (account : List ℕ) → IsAccountNumber account → IsUtf8 account
account_utf8 account form = IsUtf8-from_test is_ascii_digit digit_is_ascii account form.1

path_utf8 : (name : List ℕ) → IsPathAndName name → IsUtf8 name
path_utf8 name form = IsUtf8-from_test is_name_character name_is_ascii name form.2

front : (text : List ℕ) → IsUtf8 text → IsUtf8 (codes "arn:aws:iam::" ++ text)
front text u = IsUtf8-append (codes "arn:aws:iam::") text (IsUtf8-are_ascii _ refl) u

pub principal_utf8 : (p : Principal) → IsPrincipal p → IsUtf8 (principal_text p)
principal_utf8 (Root account) form = front _ (IsUtf8-append account _ (account_utf8 account form) (IsUtf8-are_ascii (codes ":root") refl))
principal_utf8 (User account name) form =
    front _ (IsUtf8-append account _ (account_utf8 account form.0) (IsUtf8-append (codes ":user/") name (IsUtf8-are_ascii (codes ":user/") refl) (path_utf8 name form.1)))
principal_utf8 (Role account name) form =
    front _ (IsUtf8-append account _ (account_utf8 account form.0) (IsUtf8-append (codes ":role/") name (IsUtf8-are_ascii (codes ":role/") refl) (path_utf8 name form.1)))
