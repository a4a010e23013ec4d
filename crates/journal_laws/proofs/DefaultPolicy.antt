-- The default policy of an account has no fault and is UTF-8, where the account's number is one.
use Rattle.std.proofs.Common.{◌≡◌, ℕ, Bool, true, false, not, ◌||◌, ◌&&◌, List, [], ◌∷◌, ◌++◌, length, get_or, codes, Option, Some, None, nat_lt, IsUtf8, refl, sym, ap, ap₂, ◌∙◌, if◌then◌else◌, append_assoc, append-nil, length-append, arith}
use Rattle.std.specs.Prelude.{◌==◌, nat_le}
use Rattle.std.specs.Char.{is_ascii_digit}
use Rattle.std.specs.List.{list_all, list_any, count_by}
use Rattle.std.specs.Option.{option_map, option_and_then, option_or}
use Rattle.std.specs.Str.{bytes_eq}
use Rattle.std.proofs.lemmas.Bool.{and_parts}
use Rattle.std.proofs.lemmas.Bool.Decides.{nat_tests}
use Rattle.std.proofs.lemmas.List.Folds.{list_any-append, list_all-append, list_any_none}
use Rattle.std.proofs.lemmas.List.Sums.{list_all-from_AllPass, sum_by-append}
use Rattle.std.proofs.lemmas.Str.{IsUtf8-append}
use Rattle.json.specs.Json as json
use Rattle.json.specs.Tree as tree
use Rattle.json.specs.Token.{Token}
use Rattle.json.specs.Print.{print, print_from, escape, escape_byte}
use Rattle.json.proofs.Printed.Strings.{escape_byte_plain}
use Rattle.json.proofs.Printed.Tokens.{tokens-print}
use Rattle.json.proofs.Printed.Utf8.{IsUtf8-are_ascii}
use Rattle.json.proofs.Printed.Trees.{ArePrintable-json_tokens, value-json_tokens}
use Rattle.serde_json.specs.Data.{Data, object, array, string, item, no_items, member, no_members}
use Rattle.serde_json.specs.Read.{of_json, read as read_text, max_depth}
use Rattle.kms_names.specs.Account.{IsAccountNumber}
use Rattle.kms_names.specs.Reading.{is_account_number}
use Rattle.kms_names.proofs.AsciiFacts.{IsUtf8-from_test, digit_is_ascii}
use Rattle.policy_doc.specs.declared.faults.Departure.TheVariants.{BadShape}
use Rattle.policy_doc.specs.declared.faults.PolicyFault.{PolicyFault}
use Rattle.policy_doc.specs.declared.faults.PolicyFault.TheVariants as fault
use Rattle.policy_doc.specs.declared.policies.PolicyKind.TheVariants.{Key}
use Rattle.policy_doc.specs.Callers.{principal_fault}
use Rattle.policy_doc.specs.Documents.{first_fault}
use Rattle.policy_doc.specs.Forms.{is_arn, is_unique_id, is_caller}
use Rattle.policy_doc.specs.Paths.{member_path, item_path, fault_at}
use Rattle.key_policies.specs.KeyPolicy.{value_fault, fault_in, default_front, default_back, default_text}

-- ---- its text

-- a document whose one statement names this ARN, in the order of the text
abbrev json_of : List ℕ → json.Json
json_of arn =
    json.object
    (json.member (codes "Version") (json.string (codes "2012-10-17"))
    (json.member (codes "Id") (json.string (codes "key-default-1"))
    (json.member (codes "Statement")
    (json.array
    (json.item
    (json.object
    (json.member (codes "Sid") (json.string (codes "Enable IAM User Permissions"))
    (json.member (codes "Effect") (json.string (codes "Allow"))
    (json.member (codes "Principal") (json.object (json.member (codes "AWS") (json.string arn) json.no_members))
    (json.member (codes "Action") (json.string (codes "kms:*"))
    (json.member (codes "Resource") (json.string (codes "*")) json.no_members))))))
    json.no_items)) json.no_members)))

-- what stands before and behind the ARN in its text, with the quotes
abbrev before_arn : List ℕ
before_arn = codes "{\"Version\":\"2012-10-17\",\"Id\":\"key-default-1\",\"Statement\":[{\"Sid\":\"Enable IAM User Permissions\",\"Effect\":\"Allow\",\"Principal\":{\"AWS\":\""

abbrev behind_arn : List ℕ
behind_arn = codes "},\"Action\":\"kms:*\",\"Resource\":\"*\"}]}"

printed : (arn : List ℕ) → print (tree.json_tokens (json_of arn)) ≡ before_arn ++ ((escape arn ++ 34 ∷ []) ++ behind_arn)
unfolding print_from escape_byte
printed arn = refl

-- a character that stands for itself
abbrev is_plain : ℕ → Bool
is_plain c = not (c == 34) && (not (c == 92) && nat_le 32 c)

plain_byte : (c : ℕ) → is_plain c ≡ true → escape_byte c ≡ c ∷ []
plain_byte c e =
    let first = and_parts (not (c == 34)) _ e in
    let second = and_parts (not (c == 92)) (nat_le 32 c) first.1 in
    escape_byte_plain c (λ is. grind (arith, nat_tests, first.0)) (λ is. grind (arith, nat_tests, second.0)) (grind (arith, nat_tests, second.1))

as_it_is : (text : List ℕ) → list_all is_plain text ≡ true → escape text ≡ text
as_it_is [] e = refl
as_it_is (c ∷ text) e =
    let parts = and_parts (is_plain c) (list_all is_plain text) e in
    ap₂ (λ (a b : List ℕ). a ++ b) (plain_byte c parts.0) (as_it_is text parts.1)

-- ---- what it is read as

abbrev root_arn : List ℕ → List ℕ
root_arn account = codes "arn:aws:iam::" ++ (account ++ codes ":root")

-- the same as a JSON value, whose members stand in byte order of their names
abbrev document_of : Data → Data
document_of principal =
    object
    (member (codes "Id") (string (codes "key-default-1"))
    (member (codes "Statement")
    (array
    (item
    (object
    (member (codes "Action") (string (codes "kms:*"))
    (member (codes "Effect") (string (codes "Allow"))
    (member (codes "Principal") principal
    (member (codes "Resource") (string (codes "*"))
    (member (codes "Sid") (string (codes "Enable IAM User Permissions")) no_members))))))
    no_items))
    (member (codes "Version") (string (codes "2012-10-17")) no_members)))

abbrev named : List ℕ → Data
named arn = object (member (codes "AWS") (string arn) no_members)

digit_plain : (c : ℕ) → is_ascii_digit c ≡ true → is_plain c ≡ true
digit_plain c digit = grind (arith, nat_tests)

digits_plain : (account : List ℕ) → list_all is_ascii_digit account ≡ true → list_all is_plain account ≡ true
digits_plain [] e = refl
digits_plain (c ∷ account) e =
    let parts = and_parts (is_ascii_digit c) (list_all is_ascii_digit account) e in
    ap₂ (λ (a b : Bool). a && b) (digit_plain c parts.0) (digits_plain account parts.1)

module _ (account : List ℕ) (number : IsAccountNumber account) where
  digits : list_all is_ascii_digit account ≡ true
  digits = list_all-from_AllPass is_ascii_digit account number.1

  arn_plain : list_all is_plain (root_arn account) ≡ true
  arn_plain = list_all-append is_plain account (codes ":root") ∙ ap (λ (b : Bool). b && true) (digits_plain account digits)

  text_is : print (tree.json_tokens (json_of (root_arn account))) ≡ default_text account
  unfolding default_text default_front default_back
  text_is =
      let arn : List ℕ = root_arn account in
      printed arn
      ∙ ap (λ (t : List ℕ). before_arn ++ ((t ++ 34 ∷ []) ++ behind_arn)) (as_it_is arn arn_plain)
      ∙ ap (λ (t : List ℕ). before_arn ++ t) (append_assoc arn (34 ∷ []) behind_arn)
      ∙ ap (λ (t : List ℕ). default_front ++ t) (append_assoc account (codes ":root") (34 ∷ behind_arn))

abbrev whole : Option (json.Json × List Token) → Option Data
whole o = option_and_then of_json (option_and_then (λ p. json.if_last p.0 p.1) o)

no_numbers : (arn : List ℕ) → tree.HasNumbers (json_of arn)
no_numbers arn = (tt, (tt, (((tt, (tt, ((tt, tt), (tt, (tt, tt))))), tt), tt)))

reads : (arn : List ℕ) → read_text (print (tree.json_tokens (json_of arn))) ≡ Some (document_of (named arn))
reads arn =
    let ts = tree.json_tokens (json_of arn) in
    let deep : tree.depth (json_of arn) ≡ 4 = refl in
    ap (λ (us : List Token). whole (json.value max_depth us)) (tokens-print ts (ArePrintable-json_tokens (json_of arn) (no_numbers arn)) ∙ sym (append-nil ts))
    ∙ ap whole (value-json_tokens (json_of arn) max_depth [] (omega (arith, deep)))

default_read : (account : List ℕ) → IsAccountNumber account → read_text (default_text account) ≡ Some (document_of (named (root_arn account)))
default_read account number = ap read_text (sym (text_is account number)) ∙ reads (root_arn account)

-- ---- the ARN is a caller's

abbrev colon : ℕ → Bool
colon c = c == 58

abbrev wild : ℕ → Bool
wild c = (c == 42) || (c == 63)

no_wild : (c : ℕ) → is_ascii_digit c ≡ true → wild c ≡ false
no_wild c digit = grind (arith, nat_tests)

module _ (account : List ℕ) (number : IsAccountNumber account) where
  colons : nat_le 5 (count_by colon (root_arn account)) ≡ true
  colons =
      let behind = sum_by-append (λ (c : ℕ). if colon c then 1 else 0) account (codes ":root") in
      let all = sum_by-append (λ (c : ℕ). if colon c then 1 else 0) (codes "arn:aws:iam::") (account ++ codes ":root") in
      let first : count_by colon (codes "arn:aws:iam::") ≡ 4 = refl in
      let last : count_by colon (codes ":root") ≡ 1 = refl in
      grind (arith, nat_tests, behind, all, first, last)

  none_wild : list_any wild (root_arn account) ≡ false
  none_wild =
      list_any-append wild account (codes ":root") ∙ ap (λ (b : Bool). b || false) (list_any_none wild account (λ k d lt. no_wild (get_or account k d) (number.1 k d lt)))

  is_arn_true : is_arn (root_arn account) ≡ true
  is_arn_true = ap₂ (λ (a b : Bool). a && not b) colons none_wild

or_right : (a b : Bool) → b ≡ true → a || b ≡ true
or_right true b e = refl
or_right false b e = e

or_left : (a b : Bool) → a ≡ true → a || b ≡ true
or_left true b e = refl
or_left false b e = cc

names_a_caller : (account : List ℕ) → IsAccountNumber account → is_caller (root_arn account) ≡ true
names_a_caller account number =
    let arn : List ℕ = root_arn account in
    or_right (bytes_eq arn (codes "*")) _ (or_right (is_account_number arn) _ (or_left (is_arn arn) (is_unique_id arn) (is_arn_true account number)))

-- ---- its value has no fault

abbrev principal_path : List ℕ
principal_path = member_path (item_path (member_path [] (codes "Statement")) 0) (codes "Principal")

-- the document has no fault where its principal has none
by_principal : (principal : Data) → principal_fault Key principal_path (Some principal) ≡ None → first_fault Key (document_of principal) ≡ None
unfolding first_fault
by_principal principal e = ap (λ (o : Option PolicyFault). option_or (option_or o None) None) e

named_fits : (arn : List ℕ) → is_caller arn ≡ true → principal_fault Key principal_path (Some (named arn)) ≡ None
named_fits arn e =
    let path : List ℕ = member_path principal_path (codes "AWS") in
    ap (λ (b : Bool). option_or (option_map (λ departure. fault_at departure path) (if b then None else Some BadShape)) None) e

by_size : (b : Bool) (o : Option Data) → b ≡ false → value_fault o ≡ None → (if b then Some fault.TooLong else value_fault o) ≡ None
by_size true o short e = cc
by_size false o short e = e

short : (account : List ℕ) → IsAccountNumber account → nat_lt 32768 (length (default_text account)) ≡ false
unfolding default_text default_front default_back
short account number =
    let front : length default_front ≡ 145 = refl in
    let back : length default_back ≡ 42 = refl in
    let behind = length-append account default_back in
    let whole = length-append default_front (account ++ default_back) in
    let twelve : length account ≡ 12 = number.0 in
    grind (arith, nat_tests, front, back, behind, whole, twelve)

pub default_fits : (account : List ℕ) → IsAccountNumber account → fault_in (default_text account) ≡ None
unfolding fault_in
default_fits account number =
    by_size (nat_lt 32768 (length (default_text account))) (read_text (default_text account)) (short account number)
    (ap value_fault (default_read account number) ∙ by_principal (named (root_arn account)) (named_fits (root_arn account) (names_a_caller account number)))

-- and it is UTF-8
pub default_utf8 : (account : List ℕ) → IsAccountNumber account → IsUtf8 (default_text account)
unfolding default_text default_front default_back
default_utf8 account number =
    IsUtf8-append default_front (account ++ default_back) (IsUtf8-are_ascii default_front refl)
    (IsUtf8-append account default_back (IsUtf8-from_test is_ascii_digit digit_is_ascii account number.1) (IsUtf8-are_ascii default_back refl))
