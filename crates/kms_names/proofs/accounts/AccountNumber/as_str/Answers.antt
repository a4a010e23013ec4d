-- Digits are text.
use Rattle.std.proofs.Common.{rules}
use Rattle.std.specs.Str.{IsUtf8}
use Rattle.kms_names.proofs.AsciiFacts.{IsUtf8-from_test, digit_is_ascii}
use Rattle.kms_names.proofs.accounts.AccountNumber.as_str.Goals as goal

pub unwrap-requires : goal.unwrap-requires
unwrap-requires c =
    let text : IsUtf8 c.self.inside.digits = IsUtf8-from_test _ digit_is_ascii _ c.self.invariant.1 in
    grind (rules, text, c.from_utf8.ensures.cases)
