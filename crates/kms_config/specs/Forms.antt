-- The forms of a configuration's values.
use Rattle.std.specs.Prelude.{ℕ, Bool, ◌&&◌, List, length, codes, nat_le, Option, Some, None, option_and_then}
use Rattle.std.specs.Char.{is_ascii_alphanumeric}
use Rattle.std.specs.List.{list_all}
use Rattle.std.specs.Result.{result_ok}
use Rattle.std.specs.Str.{bytes_eq}
use Rattle.hex.specs.Hex.{decode_sized}
use Rattle.serde_json.specs.Data.{Data}
use Rattle.serde_json.specs.Find.{as_number, as_u64, get}
use Rattle.kms_names.specs.Principal.{account_of}
use Rattle.kms_names.specs.Reading.{some_if, is_account_number, is_region_text, principal_of}
use Rattle.kms_names.specs.declared.principals.Principal.{Principal}
use Rattle.kms_names.specs.declared.principals.Principal.TheVariants.{Root, User, Role}
use Rattle.kms_config.specs.Members.{text_in}

-- a text that passes a test
abbrev pub text_where : (List ℕ → Bool) → Option Data → Option (List ℕ)
text_where test value = option_and_then (λ text. some_if (test text) text) (text_in value)

-- 12 decimal digits
abbrev pub account_in : Option Data → Option (List ℕ)
account_in value = text_where is_account_number value

-- 1 to 32 lower-case letters, digits and `-`
abbrev pub region_in : Option Data → Option (List ℕ)
region_in value = text_where is_region_text value

-- 64 hexadecimal digits of either case
abbrev pub root_in : Option Data → Option (List ℕ)
root_in value = option_and_then (λ text. result_ok (decode_sized text 32)) (text_in value)

-- a whole number from 1 to 4294967295
abbrev pub is_boot : ℕ → Bool
is_boot n = nat_le 1 n && nat_le n 4294967295

abbrev pub boot_in : Option Data → Option ℕ
boot_in value = option_and_then (λ n. some_if (is_boot n) n) (option_and_then as_u64 (option_and_then as_number value))

-- 1 to 128 characters
abbrev pub has_length : List ℕ → Bool
has_length text = nat_le 1 (length text) && nat_le (length text) 128

-- of letters and digits
abbrev pub is_key_id : List ℕ → Bool
is_key_id text = has_length text && list_all is_ascii_alphanumeric text

-- of visible ASCII characters
abbrev pub is_visible : ℕ → Bool
is_visible c = nat_le 33 c && nat_le c 126

abbrev pub is_secret : List ℕ → Bool
is_secret text = has_length text && list_all is_visible text

-- a principal of the account
abbrev pub if_of : List ℕ → Principal → Option Principal
if_of account principal = some_if (bytes_eq (account_of principal) account) principal

abbrev pub principal_in : List ℕ → Option Data → Option Principal
principal_in account value = option_and_then (if_of account) (option_and_then principal_of (text_in value))

-- the member `principal`
unfoldable pub principal_at : List ℕ → Data → Option Principal
principal_at account value = principal_in account (get (codes "principal") value)

-- the same but for the root
abbrev pub no_root : Principal → Option Principal
no_root (Root account) = None
no_root (User account name) = Some (User account name)
no_root (Role account name) = Some (Role account name)
