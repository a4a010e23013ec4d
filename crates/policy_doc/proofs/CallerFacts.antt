-- Which principal a text names.
use Rattle.std.proofs.Common.{◌≡◌, ◌≢◌, ℕ, List, Option, Some, None, refl, sym, ap, ◌∙◌}
use Rattle.std.specs.Prelude.{MatchOption}
use Rattle.kms_names.specs.Principal.{IsPrincipal, principal_text}
use Rattle.kms_names.specs.Reading.{principal_of}
use Rattle.kms_names.specs.declared.principals.Principal.{Principal}
use Rattle.kms_names.proofs.PrincipalFacts.{one_principal}
use Rattle.kms_names.proofs.PrincipalReading.{principal_reads}

pub principal_some : (text : List ℕ) (p : Principal) → IsPrincipal p × (text ≡ principal_text p) → Some p ≡ principal_of text
principal_some text p it = by_value (principal_of text) (principal_reads text)
  where
    by_value : (o : Option Principal) → MatchOption o ((q : Principal) → IsPrincipal q → text ≢ principal_text q) (λ q. IsPrincipal q × (text ≡ principal_text q)) → Some p ≡ o
    by_value None none = absurd (none p it.0 it.1)
    by_value (Some q) other = ap Some (one_principal p q it.0 other.0 (sym it.1 ∙ other.1))

pub principal_none : (text : List ℕ) → ((p : Principal) → IsPrincipal p → text ≢ principal_text p) → None ≡ principal_of text
principal_none text none = by_value (principal_of text) (principal_reads text)
  where
    by_value : (o : Option Principal) → MatchOption o ((q : Principal) → IsPrincipal q → text ≢ principal_text q) (λ q. IsPrincipal q × (text ≡ principal_text q)) → None ≡ o
    by_value None _ = refl
    by_value (Some q) other = absurd (none q other.0 other.1)
