-- What the code's types, which borrow, show.
use Rattle.std.specs.Prelude.{◌≡◌, ◌≢◌, ℕ, List, [], ◌∷◌, Option, Some, None, length, map}
use Rattle.sigv4_check.specs.declared.authorization.Claims.{Claims as BorrowedClaims}
use Rattle.sigv4_check.specs.declared.authorization.Scope.{Scope as BorrowedScope}
use Rattle.sigv4_check.specs.declared.authorization.Parts.{Parts as BorrowedParts}
use Rattle.sigv4_check.specs.declared.signers.Claim.{Claim as BorrowedClaim}
use Rattle.sigv4_check.specs.Authorization.{Claims, Scope}
use Rattle.sigv4_check.specs.Signer.{Claim}
use Rattle.sigv4_check.specs.Parts.{parts_at, skip_spaces}

abbrev pub shown_claims : BorrowedClaims → Claims
shown_claims c = record { id = c.id.now; date = c.date.now; region = c.region.now; names = c.names.now; signature = c.signature.now }

abbrev pub shown_scope : BorrowedScope → Scope
shown_scope s = record { id = s.id.now; date = s.date.now; region = s.region.now }

-- the three parts between commas, without the spaces before each; or there aren't three
abbrev pub IsThree : List ℕ → Option BorrowedParts → Type 0
IsThree text None = length (map skip_spaces (parts_at 44 text)) ≢ 3
IsThree text (Some p) = map skip_spaces (parts_at 44 text) ≡ p.first.now ∷ p.second.now ∷ p.third.now ∷ []

abbrev pub shown_claim : BorrowedClaim → Claim
shown_claim c = record { claims = shown_claims c.claims; stamp = c.stamp.now; second = c.second }
