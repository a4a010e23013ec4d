-- Bytes that are UTF-8, as the test tells it.
use Rattle.std.proofs.Common.{◌≡◌, ℕ, Bool, true, false, List, Bor, Some, Result, Ok, Err, MatchResult, refl, ap}
use Rattle.std.specs.Option.{option_map}
use Rattle.std.specs.Result.{result_ok}
use Rattle.std.specs.Bool.{Decides}
use Rattle.std.specs.Str.{IsUtf8, is_utf8}
use Rattle.std.proofs.lemmas.Str.{IsUtf8-from_is_utf8, is_utf8-from_IsUtf8}
use Rattle.kms_names.specs.Reading.{some_if}

pub utf8_decides : (bytes : List ℕ) → Decides (is_utf8 bytes) (IsUtf8 bytes)
utf8_decides bytes = (IsUtf8-from_is_utf8 bytes, is_utf8-from_IsUtf8 bytes)

told : {E : Type 0} (Q : E → Type 0) (b : Bool) (bytes : List ℕ) (r : Result (Bor (List ℕ)) E) → Decides b (IsUtf8 bytes)
    → MatchResult r (λ s. (s.now ≡ bytes) × IsUtf8 bytes) (λ e. ¬ (IsUtf8 bytes) × Q e) → option_map (λ s. s.now) (result_ok r) ≡ some_if b bytes
told Q true bytes (Ok s) d h = ap Some h.0
told Q false bytes (Ok s) d h = let bad : false ≡ true = d.1 h.1 in cc
told Q true bytes (Err e) d h = absurd (h.0 (d.0 refl))
told Q false bytes (Err e) d h = refl

pub utf8_text : {E : Type 0} (Q : E → Type 0) (bytes : List ℕ) (r : Result (Bor (List ℕ)) E)
    → MatchResult r (λ s. (s.now ≡ bytes) × IsUtf8 bytes) (λ e. ¬ (IsUtf8 bytes) × Q e) → option_map (λ s. s.now) (result_ok r) ≡ some_if (is_utf8 bytes) bytes
utf8_text Q bytes r h = told Q (is_utf8 bytes) bytes r (utf8_decides bytes) h
