-- What housekeeping leaves to do.
use Rattle.std.specs.Prelude.{◌≡◌, ℕ, None}
use Rattle.account_steps.specs.History.{housekeeping_of}
use Rattle.account_core.specs.Fitting.{IsHeld}
use Rattle.published_account.specs.Pairs.{entries_of}
use Rattle.publish_pass.specs.Pass.{Pass, keeping_house}

-- after housekeeping at a clock's answer, whether it was owed or not, nothing more is owed at it
abbrev pub OwesNothingMore : Type 0
OwesNothingMore = (s : Pass) (clock : ℕ) → IsHeld s.facts (entries_of s.history) → housekeeping_of (entries_of (keeping_house s clock).history) clock ≡ None
