-- The moments of a file's calls.
use Rattle.std.specs.Prelude.{◌≤◌, ℕ, Bool, List, [], ◌∷◌, length}
use Rattle.std.proofs.Common.{inl, inr}
use Rattle.std.proofs.Math.Nat.{not-suc-le_self}
use Rattle.kept_file.specs.Events.{Event, Leaves, LeftSince}

-- this moment is one of those since an earlier one
pub counts_last : (mixes : Bool) (events : List Event) (t : ℕ) (c : List ℕ) → t ≤ length events → Leaves mixes events c → LeftSince mixes events t c
counts_last mixes [] t c le now = now
counts_last mixes (e ∷ earlier) t c le now = inl now

-- since this moment there is no other
pub only_last : (mixes : Bool) (events : List Event) (c : List ℕ) → LeftSince mixes events (length events) c → Leaves mixes events c
only_last mixes [] c left = left
only_last mixes (e ∷ earlier) c (inl now) = now
only_last mixes (e ∷ earlier) c (inr past) = absurd (not-suc-le_self (length earlier) past.0)
