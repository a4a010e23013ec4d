-- What `parse` reads of a printed number.
use Rattle.std.proofs.Common.{◌≡◌, ℕ, ◌<◌, ◌^◌, List, ℤ, pos, negsuc, FitsSigned, w64, Result, Ok, Option, Some, None, arith, ◌∙◌, sym, ap}
use Rattle.std.specs.Int.Signed.{mag}
use Rattle.std.specs.Result.{result_ok}
use Rattle.std.specs.Str.Parse.{ParsesSigned}
use Rattle.std.specs.Fmt.{signed_decimal}
use Rattle.std.specs.Str.{bytes_eq}
use Rattle.std.proofs.lemmas.Fmt.{parse-signed_decimal}
use Rattle.std.proofs.lemmas.Slice.Eq.{bytes_eq-Decides}
use Rattle.std.specs.Prelude.{false, true}
use Rattle.cond_ops.specs.Number.{IsNumber}

pub small : (z : ℤ) → FitsSigned w64 z → mag z < 2 ^ 63
small (pos n) fits = omega arith
small (negsuc n) fits = omega arith

module _ {E : Type 0} (text : List ℕ) (r : Result ℤ E) (parses : ParsesSigned w64 10 text r) where
  pub parsed : (z : ℤ) → IsNumber text z → r ≡ Ok z
  parsed z is = parse-signed_decimal w64 z text r is.0 (small z is.0) is.1 parses

  module _ (o : Option ℤ) (ok : o ≡ result_ok r) where
    pub not_read : o ≡ None → (z : ℤ) → ¬ (IsNumber text z)
    not_read none z is =
        let read : result_ok r ≡ Some z = ap result_ok (parsed z is) in
        let apart : None ≡ Some z = sym none ∙ (ok ∙ read) in cc

    -- a number that was read and is printed otherwise is none
    pub printed_otherwise : (n : ℤ) → o ≡ Some n → bytes_eq (signed_decimal n) text ≡ false → (z : ℤ) → ¬ (IsNumber text z)
    printed_otherwise n some differs z is =
        let read : result_ok r ≡ Some z = ap result_ok (parsed z is) in
        let both : Some n ≡ Some z = sym some ∙ (ok ∙ read) in
        let same : n ≡ z = cc in
        let eq : bytes_eq (signed_decimal n) text ≡ true = (bytes_eq-Decides (signed_decimal n) text).1 (ap signed_decimal same ∙ sym is.1) in
        let apart : false ≡ true = sym differs ∙ eq in cc
